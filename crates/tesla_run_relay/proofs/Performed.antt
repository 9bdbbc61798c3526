-- What the command did, from its openings and closings.
use Rattle.std.proofs.Common.{◌≡◌, ◌∙◌, ◌⊎◌, inl, inr, ℕ, suc, Result, Ok, Err, List, [], ◌∷◌, map, Option, refl, sym, ap, subst}
use Rattle.std.specs.List.{list_any}
use Rattle.tesla_desk.specs.Faults.{Faults, HasCause, HasCausesBeside, after_source}
use Rattle.tesla_desk.specs.Links.{datagrams}
use Rattle.tesla_desk.specs.Live.{LeavesAll, Live, OpenedLink, Remainder, remainder_of}
use Rattle.tesla_desk.specs.Outside.{ClosesLink, OfLink, OfPost, OpensLink, Told}
use Rattle.tesla_desk.specs.declared.desk.OpenRefusal.{OpenRefusal}
use Rattle.tesla_desk.specs.declared.link.Letter.{Letter}
use Rattle.tesla_desk.proofs.Told.{leaves_all}
use Rattle.tesla_desk.proofs.Counts.{cause_none, causes_source, causes_then, counts_stay}
use Rattle.tesla_front.specs.OutcomeView.{OutcomeView, Failed}
use Rattle.tesla_front.specs.Command.{Performs}
use Rattle.tesla_front.specs.Fault.{unopened}
use Rattle.tesla_front.specs.Openings.{AnyFailed, AreFiles, Opens}
use Rattle.tesla_front.specs.declared.fault.Fault.{Fault}
use Rattle.tesla_front.specs.declared.fault.Fault.TheVariants as faults
use Rattle.tesla_front.proofs.Openings.{opens_first, opens_none, opens_then}
use Rattle.tesla_front.specs.Names.{AreDistinct, IsNoneOf}
use Rattle.tesla_relay.specs.Closed.{AnyFaulty, ClosesTo, HasMails, IsUnsent}
use Rattle.tesla_relay.specs.Links.{LeftWhere}
use Rattle.tesla_relay.specs.Opened.{OpensTo, post_name}
use Rattle.tesla_relay.specs.Posts.{PostSeen}
use Rattle.tesla_relay.proofs.Closings.{closes_to, fresh_counts, fresh_mails, mails_same}
use Rattle.tesla_relay.proofs.Links.{left_where, link_tried}
use Rattle.tesla_relay.proofs.Mails.{faulty_told, unsent_on}
use Rattle.tesla_relay.proofs.Openings.{none_of_opened, opens_still, opens_to, post_files, refused_not_all}
use Rattle.tesla_relay.proofs.Stopped.{outcome_cause, memory_counts, not_all_counts}
use Rattle.tesla_run_relay.specs.Arguments.{IsRelayForm, RelayArguments, files_of_relay}
use Rattle.tesla_run_relay.specs.Lines.{outcome_with, has_failed}
use Rattle.tesla_run_relay.specs.Relay.{EndsAs, RelaysLink, SendPosts, Stops, TouchesPosts, relay}
use Rattle.tesla_run_relay.specs.Steps.{RunsLinked, RunsNothing, RunsRelay}
use Rattle.tesla_run_relay.proofs.Mailed.{counted_faulty, faulty_counted, names_kept, sends_posts}
use Rattle.tesla_run_relay.proofs.Outcomes.{end_read, ends_as, failed_either, no_open, read_end, write_failed}

-- ---- the files

-- none of the files is the console
pub are_files : (arguments : RelayArguments) (words : List (List ℕ)) → IsRelayForm arguments words → AreFiles (files_of_relay arguments)
are_files arguments words is = (is.spelled.rest.rest.first.0.file, post_files arguments.posts is.spelled.rest.rest.rest.first.each)

link_opened : {A : Type 0} (link : List ℕ) (it : A) (before now : Told) → OpensLink {A = A} link (Ok it) before now → Opens (OfLink link ∷ []) 1 before now
link_opened link it before now opens = opens_first (OfLink link) [] before now opens.asked (λ name none. opens.pages name) (λ name none. opens.lefts name)

-- ---- nothing was opened

touches_nothing : (link : List ℕ) (posts : List (List ℕ)) (before now : Live) → now ≡ before → TouchesPosts link posts before now
touches_nothing link posts before now same = record {
  wires = λ name. ap (λ (l : Live). l.wire name) same;
  others = λ name other. ap (λ (l : Live). l.left name) same;
  mails = λ name none. ap (λ (l : Live). l.mail name) same;
  clocks = (ap (λ (l : Live). l.readings) same, ap (λ (l : Live). l.made) same);
}

stops_nothing : (arguments : RelayArguments) (before now : Live) (outcome : OutcomeView) → now ≡ before → (outcome ≡ Failed faults.Open) ⊎ (outcome ≡ Failed faults.NoMemory) → Stops arguments before now outcome
stops_nothing arguments before now outcome same cause = record {
  unheard = inl (ap (λ (l : Live). l.left arguments.link) same);
  unsent = λ name. inl (ap (λ (l : Live). l.mail name) same);
  cause = cause;
}

-- there was no room
pub performs_unroomed : (arguments : RelayArguments) (words : List (List ℕ)) (told : Told) → IsRelayForm arguments words → Performs (relay told.live told.live) arguments told told (Failed faults.NoMemory)
performs_unroomed arguments words told is = record {
  named = are_files arguments words is;
  opened = 0;
  opens = opens_none (files_of_relay arguments) told told refl (λ name. refl) (λ name. refl);
  does = (touches_nothing arguments.link arguments.posts told.live told.live refl, inl (stops_nothing arguments told.live told.live (Failed faults.NoMemory) refl (inr refl)));
  counts = memory_counts told.faults told.faults refl;
}

-- ---- the link wasn't opened

pub performs_unlinked : {A : Type 0} (arguments : RelayArguments) (words : List (List ℕ)) (refusal : OpenRefusal) (fault : Fault) (before now : Told) → IsRelayForm arguments words → fault ≡ unopened refusal → OpensLink {A = A} arguments.link (Err refusal) before now → Performs (relay before.live now.live) arguments before now (Failed fault)
performs_unlinked {A} arguments words refusal fault before now form is tried =
    let it = link_tried {A = A} arguments.link (map OfPost arguments.posts) refusal before now tried in
    let not_all = refused_not_all {A = A} refusal before now tried.counts in
    subst (λ (f : Fault). Performs (relay before.live now.live) arguments before now (Failed f)) (sym is) (record {
      named = are_files arguments words form;
      opened = it.0;
      opens = it.1;
      does = (touches_nothing arguments.link arguments.posts before.live now.live tried.live, inl (stops_nothing arguments before.live now.live (Failed (unopened refusal)) tried.live (outcome_cause (unopened refusal) not_all.cause)));
      counts = not_all_counts (unopened refusal) before now not_all;
    })

-- ---- a link that was opened, and closed behind the posts

-- the files that were asked to be opened: the link, and then those of the posts
linked_opens : {A : Type 0} (link : List ℕ) (names : List (List ℕ)) (it : A) (later : Option (List Letter)) (missed : ℕ) (opened posts : List PostSeen) (result : Result (Unit {0}) Fault) (before linked mid closed now : Told) → OpensLink {A = A} link (Ok it) before linked → (to : OpensTo names opened linked mid result) → ClosesTo posts mid closed → ClosesLink link later missed closed now → Opens (OfLink link ∷ map OfPost names) (suc to.opened) before now
linked_opens {A} link names it later missed opened posts result before linked mid closed now opens to closes close =
    opens_then (OfLink link) (map OfPost names) to.opened before linked now (link_opened {A = A} link it before linked opens)
    (opens_still (map OfPost names) to.opened linked mid now to.opens (close.asked ∙ closes.asked) (λ name. close.pages name ∙ closes.pages name) (λ name. close.lefts name ∙ closes.lefts name))

linked_touches : {A : Type 0} (link : List ℕ) (names : List (List ℕ)) (it : A) (later : Option (List Letter)) (missed : ℕ) (opened posts : List PostSeen) (result : Result (Unit {0}) Fault) (before linked mid closed now : Told) → ((name : List ℕ) → IsNoneOf name names → IsNoneOf name (map post_name posts)) → OpensLink {A = A} link (Ok it) before linked → OpensTo names opened linked mid result → ClosesTo posts mid closed → ClosesLink link later missed closed now → TouchesPosts link names before.live now.live
linked_touches link names it later missed opened posts result before linked mid closed now others opens to closes close =
    let same : mid.live ≡ before.live = to.live ∙ opens.live in record {
      wires = λ name. close.wires name ∙ closes.wires name ∙ ap (λ (l : Live). l.wire name) same;
      others = λ name other. close.others name other ∙ closes.remainders name ∙ ap (λ (l : Live). l.left name) same;
      mails = λ name none. close.mails name ∙ closes.others name (others name none) ∙ ap (λ (l : Live). l.mail name) same;
      clocks = (close.clocks.0 ∙ closes.clocks.0 ∙ ap (λ (l : Live). l.readings) same, close.clocks.1 ∙ closes.clocks.1 ∙ ap (λ (l : Live). l.made) same);
    }

-- ---- nothing was relayed

nothing_counts : {hidden : Type 0} (names : List (List ℕ)) (posts : List PostSeen) (result : Result (Unit {0}) Fault) (fault : Fault) (linked mid : Told) → OpensTo names posts linked mid result → (result ≡ Err fault) ⊎ ((result ≡ Ok tt) × (fault ≡ faults.NoMemory)) → HasCausesBeside hidden linked.faults mid.faults (Failed fault ≡ Failed faults.Read) (Failed fault ≡ Failed faults.Write) (Failed fault ≡ Failed faults.Open)
nothing_counts {hidden} names posts result fault linked mid to (inl refused) =
    not_all_counts {hidden = hidden} fault linked mid (to.refused fault refused)
nothing_counts {hidden} names posts result fault linked mid to (inr (whole, is)) =
    subst (λ (f : Fault). HasCausesBeside hidden linked.faults mid.faults (Failed f ≡ Failed faults.Read) (Failed f ≡ Failed faults.Write) (Failed f ≡ Failed faults.Open)) (sym is)
    (memory_counts linked.faults mid.faults (to.whole whole).counts)

nothing_cause : (names : List (List ℕ)) (posts : List PostSeen) (result : Result (Unit {0}) Fault) (fault : Fault) (linked mid : Told) → OpensTo names posts linked mid result → (result ≡ Err fault) ⊎ ((result ≡ Ok tt) × (fault ≡ faults.NoMemory)) → (fault ≡ faults.Open) ⊎ (fault ≡ faults.NoMemory)
nothing_cause names posts result fault linked mid to (inl refused) = (to.refused fault refused).cause
nothing_cause names posts result fault linked mid to (inr (whole, is)) = inr is

performs_nothing : {A : Type 0} (arguments : RelayArguments) (words : List (List ℕ)) (it : A) (left later : Option (List Letter)) (missed : ℕ) (before linked mid closed now : Told) (posts : List PostSeen) (outcome : OutcomeView) → IsRelayForm arguments words → OpenedLink (before.live.wire arguments.link) left → OpensLink {A = A} arguments.link (Ok it) before linked → RunsNothing arguments.posts left later 0 missed linked mid posts outcome → ((name : List ℕ) → (closed.live.mail name ≡ mid.live.mail name) ⊎ IsUnsent (closed.live.mail name)) → closed.faults ≡ mid.faults → ClosesTo posts mid closed → ClosesLink arguments.link later missed closed now → Performs (relay before.live now.live) arguments before now outcome
performs_nothing {A} arguments words it left later missed before linked mid closed now posts outcome form letters opens runs unsent still closes close =
    let to = opens_to arguments.posts linked mid posts runs.result runs.opens in
    let cause = nothing_cause arguments.posts posts runs.result runs.fault linked mid to runs.why in
    let first : linked.faults ≡ before.faults = counts_stay before.faults linked.faults opens.counts (λ e. absurd cc) in
    let last : now.faults ≡ mid.faults = close.counts ∙ ap (λ (n : ℕ). after_source closed.faults n) runs.missed_is ∙ still in
    subst (λ (c : OutcomeView). Performs (relay before.live now.live) arguments before now c) (sym runs.outcome_is) (record {
      named = are_files arguments words form;
      opened = suc to.opened;
      opens = linked_opens {A = A} arguments.link arguments.posts it later missed posts posts runs.result before linked mid closed now opens to closes close;
      does = (
        linked_touches {A = A} arguments.link arguments.posts it later missed posts posts runs.result before linked mid closed now
            (λ name none. none_of_opened name arguments.posts posts linked mid runs.result to none) opens to closes close,
        inl (record {
          unheard = inr (subst (λ (r : Option Remainder). LeavesAll (before.live.wire arguments.link) r) (sym close.own)
              (subst (λ (l : Option (List Letter)). LeavesAll (before.live.wire arguments.link) (remainder_of l missed)) (sym runs.left_is) (leaves_all (before.live.wire arguments.link) left missed letters runs.missed_is)));
          unsent = λ name. unsent_on before.live now.live closed.live name (close.mails name)
              (subst (λ (l : Live). (closed.live.mail name ≡ l.mail name) ⊎ IsUnsent (closed.live.mail name)) (to.live ∙ opens.live) (unsent name));
          cause = outcome_cause runs.fault cause;
        }),
      );
      counts = subst (λ (f : Faults). HasCausesBeside ((Failed runs.fault ≡ Failed faults.Read) × AnyFailed (files_of_relay arguments) now) before.faults f (Failed runs.fault ≡ Failed faults.Read) (Failed runs.fault ≡ Failed faults.Write) (Failed runs.fault ≡ Failed faults.Open)) (sym last)
          (causes_then before.faults linked.faults mid.faults first (nothing_counts arguments.posts posts runs.result runs.fault linked mid to runs.why));
    })

-- ---- the link was relayed

relayed_counts : (capacity : ℕ) (names : List (List ℕ)) (link : List ℕ) (left later : Option (List Letter)) (missed : ℕ) (linked mid closed now : Told) (posts : List PostSeen) (outcome : OutcomeView) (runs : RunsRelay capacity names left later 0 missed linked mid posts outcome) → OpensTo names runs.opened linked mid (Ok tt) → HasMails posts now → map post_name posts ≡ names → ClosesTo posts mid closed → ClosesLink link later missed closed now
    → HasCausesBeside ((outcome ≡ Failed faults.Read) × AnyFailed (OfLink link ∷ map OfPost names) now) linked.faults now.faults (outcome ≡ Failed faults.Read) (outcome ≡ Failed faults.Write) (outcome ≡ Failed faults.Open)
relayed_counts capacity names link left later missed linked mid closed now posts outcome runs to mails named closes close =
    let before : mid.faults ≡ linked.faults = (to.whole refl).counts in
    let from : (fault : Fault) → outcome ≡ Failed fault → outcome_with runs.end (list_any has_failed runs.counts) runs.counts ≡ Failed fault = λ fault e. sym runs.outcome_is ∙ e in
    let back : (fault : Fault) → outcome_with runs.end (list_any has_failed runs.counts) runs.counts ≡ Failed fault → outcome ≡ Failed fault = λ fault e. runs.outcome_is ∙ e in
    let source = causes_source {read = outcome ≡ Failed faults.Read} {write = ⊥} {opening = ⊥} closed.faults now.faults missed close.counts runs.read
    (λ e. read_end runs.end (list_any has_failed runs.counts) runs.counts (from faults.Read e)) (λ e. back faults.Read (end_read runs.end (list_any has_failed runs.counts) runs.counts e)) (λ never. never) (λ never. never) in
    let reads : closed.faults.reads ≡ linked.faults.reads = closes.reads ∙ ap (λ (f : Faults). f.reads) before in
    let writes : now.faults.writes ≡ closed.faults.writes = ap (λ (f : Faults). f.writes) close.counts in
    let writes_before : mid.faults.writes ≡ linked.faults.writes = ap (λ (f : Faults). f.writes) before in
    let openings : now.faults.openings ≡ linked.faults.openings = ap (λ (f : Faults). f.openings) close.counts ∙ closes.openings ∙ ap (λ (f : Faults). f.openings) before in
    let cause : HasCause linked.faults.writes now.faults.writes (AnyFaulty posts) =
    subst (λ (n : ℕ). HasCause n now.faults.writes (AnyFaulty posts)) writes_before (subst (λ (n : ℕ). HasCause mid.faults.writes n (AnyFaulty posts)) (sym writes) closes.writes) in
    record {
      reads = subst (λ (n : ℕ). HasCause n now.faults.reads (outcome ≡ Failed faults.Read)) reads source.reads;
      writes = record {
        stays = cause.stays;
        rose = λ e. cause.rose (counted_faulty capacity (datagrams runs.relays.taken) runs.opened posts runs.counts to.fresh runs.relays.posts (write_failed runs.end (list_any has_failed runs.counts) runs.counts (from faults.Write e)));
        still = λ none clear. cause.still (λ faulty.
            elim (failed_either runs.end (list_any has_failed runs.counts) runs.counts (faulty_counted capacity (datagrams runs.relays.taken) runs.opened posts runs.counts to.fresh runs.relays.posts faulty)) [
              | inl read ↦ clear (back faults.Read read, subst (λ (ns : List (List ℕ)). AnyFailed (map OfPost ns) now) named (faulty_told posts now mails faulty))
              | inr write ↦ none (back faults.Write write)
            ]);
      };
      openings = cause_none linked.faults.openings now.faults.openings openings (λ e. no_open runs.end (list_any has_failed runs.counts) runs.counts (from faults.Open e));
    }

relayed_link : (arguments : RelayArguments) (left later : Option (List Letter)) (missed : ℕ) (before now : Live) (linked mid told : Told) (posts : List PostSeen) (outcome : OutcomeView) (runs : RunsRelay arguments.capacity arguments.posts left later 0 missed linked mid posts outcome) → OpenedLink (before.wire arguments.link) left → SendPosts arguments.capacity (datagrams runs.relays.taken) arguments.posts now runs.counts → now.left arguments.link ≡ remainder_of later missed → RelaysLink arguments before now outcome
relayed_link arguments left later missed before now linked mid told posts outcome runs letters sent rest = record {
  taken = runs.relays.taken;
  link = subst (λ (r : Option Remainder). LeftWhere runs.relays.taken (before.wire arguments.link) r) (sym rest) (left_where runs.relays.taken (before.wire arguments.link) left later missed letters runs.relays.left_is);
  counts = runs.counts;
  posts = sent;
  ends = subst (λ (r : Option Remainder). EndsAs r (list_any has_failed runs.counts) runs.counts outcome) (sym rest)
      (subst (λ (c : OutcomeView). EndsAs (remainder_of later missed) (list_any has_failed runs.counts) runs.counts c) (sym runs.outcome_is) (ends_as runs.end (list_any has_failed runs.counts) runs.counts later missed runs.read runs.relays.ended));
}

performs_relayed : {A : Type 0} (arguments : RelayArguments) (words : List (List ℕ)) (it : A) (left later : Option (List Letter)) (missed : ℕ) (before linked mid closed now : Told) (posts : List PostSeen) (outcome : OutcomeView) → IsRelayForm arguments words → OpenedLink (before.live.wire arguments.link) left → OpensLink {A = A} arguments.link (Ok it) before linked → RunsRelay arguments.capacity arguments.posts left later 0 missed linked mid posts outcome → ClosesTo posts mid closed → ClosesLink arguments.link later missed closed now → Performs (relay before.live now.live) arguments before now outcome
performs_relayed {A} arguments words it left later missed before linked mid closed now posts outcome form letters opens runs closes close =
    let to = opens_to arguments.posts linked mid runs.opened (Ok tt) runs.opens in
    let named : map post_name posts ≡ arguments.posts = names_kept arguments.capacity (datagrams runs.relays.taken) runs.opened posts runs.counts runs.relays.posts ∙ (to.whole refl).names_are in
    let mails : HasMails posts now = mails_same posts closed now close.mails (closes.mails (subst AreDistinct (sym named) form.spelled.rest.rest.rest.first.distinct)) in
    let sent : SendPosts arguments.capacity (datagrams runs.relays.taken) arguments.posts now.live runs.counts =
    subst (λ (ns : List (List ℕ)). SendPosts arguments.capacity (datagrams runs.relays.taken) ns now.live runs.counts) named (sends_posts arguments.capacity (datagrams runs.relays.taken) runs.opened posts runs.counts now to.fresh mails runs.relays.posts) in
    let first : linked.faults ≡ before.faults = counts_stay before.faults linked.faults opens.counts (λ e. absurd cc) in
    record {
      named = are_files arguments words form;
      opened = suc to.opened;
      opens = linked_opens {A = A} arguments.link arguments.posts it later missed runs.opened posts (Ok tt) before linked mid closed now opens to closes close;
      does = (
        linked_touches {A = A} arguments.link arguments.posts it later missed runs.opened posts (Ok tt) before linked mid closed now
            (λ name none. subst (λ (names : List (List ℕ)). IsNoneOf name names) (sym named) none) opens to closes close,
        inr (ap suc (to.whole refl).all, relayed_link arguments left later missed before.live now.live linked mid now posts outcome runs letters sent close.own),
      );
      counts = causes_then before.faults linked.faults now.faults first (relayed_counts arguments.capacity arguments.posts arguments.link left later missed linked mid closed now posts outcome runs to mails named closes close);
    }

-- the link was opened, something or nothing was relayed, and all was closed
pub performs_linked : {A : Type 0} (arguments : RelayArguments) (words : List (List ℕ)) (it : A) (link : List ℕ) (left : Option (List Letter)) (before linked now : Told) (outcome : OutcomeView) → IsRelayForm arguments words → link ≡ arguments.link → OpenedLink (before.live.wire arguments.link) left → OpensLink {A = A} arguments.link (Ok it) before linked → RunsLinked arguments.capacity arguments.posts link left linked now outcome → Performs (relay before.live now.live) arguments before now outcome
performs_linked {A} arguments words it link left before linked now outcome form own letters opens runs =
    let closes = closes_to runs.posts runs.mid runs.closed runs.closes_posts in
    let close : ClosesLink arguments.link runs.later runs.missed runs.closed now = subst (λ (n : List ℕ). ClosesLink n runs.later runs.missed runs.closed now) own runs.closes_link in
    elim runs.runs [
      | inl nothing ↦
          let to = opens_to arguments.posts linked runs.mid runs.posts nothing.result nothing.opens in
          performs_nothing {A = A} arguments words it left runs.later runs.missed before linked runs.mid runs.closed now runs.posts outcome form letters opens nothing
          (fresh_mails runs.posts runs.mid runs.closed to.fresh runs.closes_posts) (fresh_counts runs.posts runs.mid runs.closed to.fresh closes) closes close
      | inr relays ↦ performs_relayed {A = A} arguments words it left runs.later runs.missed before linked runs.mid runs.closed now runs.posts outcome form letters opens relays closes close
    ]
