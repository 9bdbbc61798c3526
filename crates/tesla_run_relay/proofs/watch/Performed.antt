-- What the command did, from its openings and closings.
use Rattle.std.proofs.Common.{◌≡◌, ◌∙◌, ◌⊎◌, inl, inr, ℕ, suc, ◌+◌, Bool, true, false, Result, Ok, Err, List, [], ◌∷◌, ◌++◌, length, map, Option, Some, None, refl, sym, ap, subst, arith}
use Rattle.std.specs.Prelude.{◌||◌}
use Rattle.std.specs.List.{list_any}
use Rattle.std.specs.Option.{option_map}
use Rattle.std.proofs.lemmas.List.{length-map}
use Rattle.tesla_desk.specs.Faults.{Faults, HasCause, HasCauses, HasCausesBeside, after_source, raised}
use Rattle.tesla_desk.specs.Links.{datagrams}
use Rattle.tesla_desk.specs.Live.{LeavesAll, Live, OpenedLink, Remainder, remainder_of}
use Rattle.tesla_desk.specs.Outside.{ClosesLink, OfLink, OfPost, OfSink, OpensLink, OpensSink, Page, Told, page_of}
use Rattle.tesla_desk.specs.declared.desk.OpenRefusal.{OpenRefusal}
use Rattle.tesla_desk.specs.declared.link.Letter.{Letter}
use Rattle.tesla_desk.proofs.Told.{leaves_all}
use Rattle.tesla_desk.proofs.Counts.{cause_both, cause_none, causes_plain, causes_sink, causes_source, causes_then, counts_stay}
use Rattle.tesla_front.specs.OutcomeView.{OutcomeView, Failed}
use Rattle.tesla_front.specs.Command.{Performs}
use Rattle.tesla_front.specs.Fault.{unopened}
use Rattle.tesla_front.specs.Files.{HasFailed}
use Rattle.tesla_front.specs.Openings.{AnyFailed, AreFiles, Opens}
use Rattle.tesla_front.specs.declared.fault.Fault.{Fault}
use Rattle.tesla_front.specs.declared.fault.Fault.TheVariants as faults
use Rattle.tesla_front.proofs.Openings.{opens_first, opens_none, opens_then, sink_tried}
use Rattle.tesla_front.specs.Names.{AreDistinct, IsNoneOf}
use Rattle.tesla_relay.specs.Closed.{AnyFaulty, ClosesTo, HasMails, IsUnsent}
use Rattle.tesla_relay.specs.Links.{LeftWhere}
use Rattle.tesla_relay.specs.Opened.{AreFresh, OpensTo, post_name}
use Rattle.tesla_relay.specs.Opening.{ClosesPosts}
use Rattle.tesla_relay.specs.Posts.{PostSeen}
use Rattle.tesla_relay.proofs.Clocks.{live_alone}
use Rattle.tesla_relay.proofs.Closings.{closes_to, fresh_counts, fresh_mails, mails_same}
use Rattle.tesla_relay.proofs.Links.{left_where, link_tried}
use Rattle.tesla_relay.proofs.Mails.{faulty_told, some_rose, unsent_on}
use Rattle.tesla_relay.proofs.Openings.{none_of_opened, opens_still, opens_to, post_files, refused_not_all}
use Rattle.tesla_relay.proofs.Stopped.{memory_counts, not_all_counts, outcome_cause}
use Rattle.tesla_relay.specs.declared.relayed.PostCount.{PostCount}
use Rattle.tesla_run_relay.specs.Lines.{has_failed, outcome_with}
use Rattle.tesla_run_relay.specs.Relay.{EndsAs, SendPosts}
use Rattle.tesla_run_relay.proofs.Mailed.{counted_faulty, faulty_counted, names_kept, sends_posts}
use Rattle.tesla_run_relay.proofs.Outcomes.{end_read, ends_as, failed_either, no_open, read_end, write_failed}
use Rattle.tesla_run_relay.specs.watch.Arguments.{IsWatchForm, WatchArguments, files_of_watch}
use Rattle.tesla_run_relay.specs.watch.Steps.{IsUnread, LacksStatus, RunsLinked, RunsPosts, TellsStatus, WatchesRelay}
use Rattle.tesla_run_relay.specs.watch.Watch.{RelaysWatched, StopsWatched, TouchesWatched, unless_failed, watch_relay}
use Rattle.tesla_run_relay.specs.watch.Written.{HoldsStatus}
use Rattle.tesla_front.proofs.Behind.{are_files_more, failed_back, failed_prefix, opens_more, opens_prefix}
use Rattle.tesla_run_relay.proofs.watch.Files.{failed_page, status_is}
use Rattle.tesla_run_relay.proofs.watch.Told.{holds_status}

-- ---- the files

-- none of the files is the console
pub are_files : (arguments : WatchArguments) (words : List (List ℕ)) → IsWatchForm arguments words → AreFiles (files_of_watch arguments)
are_files arguments words is =
    are_files_more (OfLink arguments.relay.link ∷ map OfPost arguments.relay.posts) arguments.status
    (is.spelled.rest.rest.first.0.file, post_files arguments.relay.posts is.spelled.rest.rest.rest.first.each) is.spelled.rest.rest.rest.rest.first.0.file

link_opened : {A : Type 0} (link : List ℕ) (it : A) (before now : Told) → OpensLink {A = A} link (Ok it) before now → Opens (OfLink link ∷ []) 1 before now
link_opened link it before now opens = opens_first (OfLink link) [] before now opens.asked (λ name none. opens.pages name) (λ name none. opens.lefts name)

-- ---- posts and STATUS, opened as far as they were, and STATUS closed

record Tried (names : List (List ℕ)) (status : List ℕ) (linked tried : Told) : Type 0 where
  opened : ℕ
  opens : Opens (map OfPost names ++ OfSink status ∷ []) opened linked tried
  made : (tried.live.made ≡ linked.live.made) ⊎ (tried.live.made ≡ option_map raised linked.live.made)
  same : tried.live ≡ record linked.live { made = tried.live.made }

-- all posts were opened
all_posts : (names : List (List ℕ)) (linked mid : Told) (posts : List PostSeen) → OpensTo names posts linked mid (Ok tt) → Opens (map OfPost names) (length (map OfPost names)) linked mid
all_posts names linked mid posts to = subst (λ (n : ℕ). Opens (map OfPost names) n linked mid) ((to.whole refl).all ∙ sym (length-map names OfPost)) to.opens

-- STATUS was not
tried_posts : (names : List (List ℕ)) (status : List ℕ) (linked mid : Told) (posts : List PostSeen) (result : Result (Unit {0}) Fault) → OpensTo names posts linked mid result → Tried names status linked mid
tried_posts names status linked mid posts result to = record {
  opened = to.opened;
  opens = opens_prefix (map OfPost names) (OfSink status ∷ []) to.opened linked mid (let size : length (map OfPost names) ≡ length names = length-map names OfPost in omega (arith, size, to.few)) to.opens;
  made = inl (ap (λ (l : Live). l.made) to.live);
  same = live_alone linked.live mid.live to.live;
}

-- its opening was refused
tried_refused : (names : List (List ℕ)) (status : List ℕ) (linked mid tried : Told) (posts : List PostSeen) (refusal : OpenRefusal) → OpensTo names posts linked mid (Ok tt) → OpensSink {A = Unit {0}} status (Err refusal) mid tried → Tried names status linked tried
tried_refused names status linked mid tried posts refusal to opens =
    let some = sink_tried {A = Unit {0}} status (Err refusal) mid tried opens in
    let live : tried.live ≡ linked.live = opens.live ∙ to.live in
    record {
      opened = length (map OfPost names) + some.0;
      opens = opens_more (map OfPost names) (OfSink status ∷ []) some.0 linked mid tried (all_posts names linked mid posts to) some.2;
      made = inl (ap (λ (l : Live). l.made) live);
      same = live_alone linked.live tried.live live;
    }

module _ (names : List (List ℕ)) (status : List ℕ) (linked mid tried : Told) (posts : List PostSeen) (number : ℕ) (counts : Option (List PostCount)) (failed : Bool) (to : OpensTo names posts linked mid (Ok tt)) (tells : TellsStatus status number counts failed mid tried) where
  -- it was opened, and closed
  told_live : (clocked : Told) → clocked ≡ tells.mid → clocked.live ≡ record linked.live { made = clocked.live.made }
  told_live clocked is = subst (λ (t : Told). t.live ≡ record linked.live { made = t.live.made }) (sym is)
      (ap (λ (t : Told). t.live) tells.opens.makes.same ∙ ap (λ (l : Live). record l { made = tells.mid.live.made }) (tells.opens.opens.live ∙ to.live))

  told_made : tried.live.made ≡ option_map raised linked.live.made
  told_made = ap (λ (l : Live). l.made) tells.ends.closes.live ∙ tells.opens.makes.counted ∙ ap (λ (l : Live). option_map raised l.made) (tells.opens.opens.live ∙ to.live)

  tried_told : Tried names status linked tried
  tried_told = record {
    opened = length (map OfPost names) + 1;
    opens = opens_more (map OfPost names) (OfSink status ∷ []) 1 linked mid tried (all_posts names linked mid posts to)
        (opens_first (OfSink status) [] mid tried
        (tells.ends.closes.asked ∙ ap (λ (t : Told). t.openings) tells.opens.makes.same ∙ tells.opens.opens.asked)
        (λ name none. tells.ends.closes.pages name (λ same. none (inl (ap OfSink (sym same)))) ∙ ap (λ (t : Told). t.page name) tells.opens.makes.same ∙ tells.opens.opens.pages name (λ same. none (inl (ap OfSink (sym same)))))
        (λ name none. tells.ends.closes.lefts name ∙ ap (λ (t : Told). t.left name) tells.opens.makes.same ∙ tells.opens.opens.lefts name));
    made = inr told_made;
    same = subst (λ (l : Live). l ≡ record linked.live { made = l.made }) (sym tells.ends.closes.live) (told_live tells.mid refl);
  }

  -- its page, and the counts
  told_page : tried.page status ≡ page_of tells.ends.written tells.ends.faults
  told_page = tells.ends.closes.own

  told_holds : HoldsStatus number counts failed (tried.page status)
  told_holds = subst (λ (page : Page). HoldsStatus number counts failed page) (sym told_page) (holds_status number counts tells.ends.written tells.ends.faults failed tells.ends.told)

  told_before : tells.mid.faults ≡ linked.faults
  told_before = ap (λ (t : Told). t.faults) tells.opens.makes.same ∙ counts_stay mid.faults tells.opens.opened.faults tells.opens.opens.counts (λ e. absurd cc) ∙ (to.whole refl).counts

  told_counts : {read write opening : Type 0} → (read → ⊥) → (write → failed ≡ true) → (failed ≡ true → write) → (opening → ⊥) → HasCauses linked.faults tried.faults read write opening
  told_counts {read} {write} {opening} none from into never = subst (λ (f : Faults). HasCauses f tried.faults read write opening) told_before
      (causes_sink {failed = failed ≡ true} {read = read} {write = write} {opening = opening} tells.mid.faults tried.faults tells.ends.faults tells.ends.closes.counts tells.ends.told.puts.cause none from into never)

  -- where it failed, its page tells so
  told_failed : failed ≡ true → HasFailed (tried.page status)
  told_failed is = subst (λ (page : Page). HasFailed page) (sym told_page) (failed_page tells.ends.written tells.ends.faults (some_rose 0 tells.ends.faults refl (tells.ends.told.puts.cause.rose is)))

-- ---- and then the posts and the link were closed

watch_opens : {A : Type 0} (link : List ℕ) (names : List (List ℕ)) (status : List ℕ) (it : A) (later : Option (List Letter)) (missed : ℕ) (posts : List PostSeen) (before linked tried closed now : Told) → OpensLink {A = A} link (Ok it) before linked → (to : Tried names status linked tried) → ClosesTo posts tried closed → ClosesLink link later missed closed now → Opens (OfLink link ∷ map OfPost names ++ OfSink status ∷ []) (suc to.opened) before now
watch_opens {A} link names status it later missed posts before linked tried closed now opens to closes close =
    opens_then (OfLink link) (map OfPost names ++ OfSink status ∷ []) to.opened before linked now (link_opened {A = A} link it before linked opens)
    (opens_still (map OfPost names ++ OfSink status ∷ []) to.opened linked tried now to.opens (close.asked ∙ closes.asked) (λ name. close.pages name ∙ closes.pages name) (λ name. close.lefts name ∙ closes.lefts name))

watch_touches : {A : Type 0} (link : List ℕ) (names : List (List ℕ)) (status : List ℕ) (it : A) (later : Option (List Letter)) (missed : ℕ) (posts : List PostSeen) (before linked tried closed now : Told) → ((name : List ℕ) → IsNoneOf name names → IsNoneOf name (map post_name posts)) → OpensLink {A = A} link (Ok it) before linked → Tried names status linked tried → ClosesTo posts tried closed → ClosesLink link later missed closed now → TouchesWatched link names before.live now.live
watch_touches {A} link names status it later missed posts before linked tried closed now others opens to closes close =
    let made : now.live.made ≡ tried.live.made = close.clocks.1 ∙ closes.clocks.1 in record {
      made = elim to.made [
        | inl same ↦ inl (made ∙ same ∙ ap (λ (l : Live). l.made) opens.live)
        | inr one ↦ inr (made ∙ one ∙ ap (λ (l : Live). option_map raised l.made) opens.live)
      ];
      others = record {
        wires = λ name. close.wires name ∙ closes.wires name ∙ ap (λ (l : Live). l.wire name) to.same ∙ ap (λ (l : Live). l.wire name) opens.live;
        others = λ name other. close.others name other ∙ closes.remainders name ∙ ap (λ (l : Live). l.left name) to.same ∙ ap (λ (l : Live). l.left name) opens.live;
        mails = λ name none. close.mails name ∙ closes.others name (others name none) ∙ ap (λ (l : Live). l.mail name) to.same ∙ ap (λ (l : Live). l.mail name) opens.live;
        clocks = (close.clocks.0 ∙ closes.clocks.0 ∙ ap (λ (l : Live). l.readings) to.same ∙ ap (λ (l : Live). l.readings) opens.live, refl);
      };
    }

-- ---- nothing was relayed

-- posts that are new, of which each has one of the names
abbrev AreFreshNamed : List (List ℕ) → List PostSeen → Type 0
AreFreshNamed names posts = AreFresh posts × ((name : List ℕ) → IsNoneOf name names → IsNoneOf name (map post_name posts))

-- why, and what STATUS has
record StopsAt (hidden : Type 0) (status : List ℕ) (posts : ℕ) (linked tried : Told) (outcome : OutcomeView) : Type 0 where
  stopped : OutcomeView
  cause : (stopped ≡ Failed faults.Open) ⊎ (stopped ≡ Failed faults.NoMemory)
  failed : Bool
  page : ((tried.page status ≡ linked.page status) × (failed ≡ false)) ⊎ HoldsStatus posts None failed (tried.page status)
  outcome_is : outcome ≡ unless_failed failed stopped
  counts : HasCausesBeside hidden linked.faults tried.faults (outcome ≡ Failed faults.Read) (outcome ≡ Failed faults.Write) (outcome ≡ Failed faults.Open)

-- an outcome in other words
counts_as : {hidden : Type 0} (before now : Faults) (outcome other : OutcomeView) → outcome ≡ other → HasCausesBeside hidden before now (other ≡ Failed faults.Read) (other ≡ Failed faults.Write) (other ≡ Failed faults.Open) → HasCausesBeside hidden before now (outcome ≡ Failed faults.Read) (outcome ≡ Failed faults.Write) (outcome ≡ Failed faults.Open)
counts_as {hidden} before now outcome other is counts = subst (λ (c : OutcomeView). HasCausesBeside hidden before now (c ≡ Failed faults.Read) (c ≡ Failed faults.Write) (c ≡ Failed faults.Open)) (sym is) counts

-- the opening of a post was refused
stops_post : {hidden : Type 0} (names : List (List ℕ)) (status : List ℕ) (linked tried : Told) (posts : List PostSeen) (fault : Fault) (outcome : OutcomeView) → OpensTo names posts linked tried (Err fault) → outcome ≡ Failed fault → StopsAt hidden status (length names) linked tried outcome
stops_post {hidden} names status linked tried posts fault outcome to is =
    let not_all = to.refused fault refl in record {
      stopped = Failed fault;
      cause = outcome_cause fault not_all.cause;
      failed = false;
      page = inl (to.pages status, refl);
      outcome_is = is;
      counts = counts_as {hidden = hidden} linked.faults tried.faults outcome (Failed fault) is (not_all_counts {hidden = hidden} fault linked tried not_all);
    }

-- STATUS wasn't opened
stops_status : {hidden : Type 0} (names : List (List ℕ)) (status : List ℕ) (linked mid tried : Told) (posts : List PostSeen) (fault : Fault) (outcome : OutcomeView) → OpensTo names posts linked mid (Ok tt) → LacksStatus status mid tried fault → outcome ≡ Failed fault → StopsAt hidden status (length names) linked tried outcome
stops_status {hidden} names status linked mid tried posts fault outcome to (inl (same, none)) is =
    let told : outcome ≡ Failed faults.NoMemory = is ∙ ap (λ (f : Fault). Failed f) none in
    record {
      stopped = Failed faults.NoMemory;
      cause = inr refl;
      failed = false;
      page = inl (ap (λ (t : Told). t.page status) same ∙ to.pages status, refl);
      outcome_is = told;
      counts = counts_as {hidden = hidden} linked.faults tried.faults outcome (Failed faults.NoMemory) told (memory_counts {hidden = hidden} linked.faults tried.faults (ap (λ (t : Told). t.faults) same ∙ (to.whole refl).counts));
    }
stops_status {hidden} names status linked mid tried posts fault outcome to (inr (refusal, opens, why)) is =
    let not_all = refused_not_all {A = Unit {0}} refusal mid tried opens.counts in
    let told : outcome ≡ Failed (unopened refusal) = is ∙ ap (λ (f : Fault). Failed f) why in
    record {
      stopped = Failed (unopened refusal);
      cause = outcome_cause (unopened refusal) not_all.cause;
      failed = false;
      page = inl (opens.refused ∙ to.pages status, refl);
      outcome_is = told;
      counts = counts_as {hidden = hidden} linked.faults tried.faults outcome (Failed (unopened refusal)) told (causes_then linked.faults mid.faults tried.faults (to.whole refl).counts (not_all_counts {hidden = hidden} (unopened refusal) mid tried not_all));
    }

unless_read : (failed : Bool) → unless_failed failed (Failed faults.NoMemory) ≡ Failed faults.Read → ⊥
unless_read true e = absurd cc
unless_read false e = absurd cc

unless_open : (failed : Bool) → unless_failed failed (Failed faults.NoMemory) ≡ Failed faults.Open → ⊥
unless_open true e = absurd cc
unless_open false e = absurd cc

unless_write : (failed : Bool) → unless_failed failed (Failed faults.NoMemory) ≡ Failed faults.Write → failed ≡ true
unless_write true e = refl
unless_write false e = absurd cc

write_unless : (failed : Bool) → failed ≡ true → unless_failed failed (Failed faults.NoMemory) ≡ Failed faults.Write
write_unless true e = refl
write_unless false e = absurd cc

-- there are as many posts as names
posts_size : (names : List (List ℕ)) (linked mid : Told) (posts : List PostSeen) → OpensTo names posts linked mid (Ok tt) → length posts ≡ length names
posts_size names linked mid posts to = sym (length-map posts post_name) ∙ ap (λ (ns : List (List ℕ)). length ns) (to.whole refl).names_are

-- there was no memory for the relay
stops_memory : {hidden : Type 0} (names : List (List ℕ)) (status : List ℕ) (linked mid tried : Told) (posts : List PostSeen) (failed : Bool) (outcome : OutcomeView) → OpensTo names posts linked mid (Ok tt) → TellsStatus status (length posts) None failed mid tried → outcome ≡ unless_failed failed (Failed faults.NoMemory) → StopsAt hidden status (length names) linked tried outcome
stops_memory {hidden} names status linked mid tried posts failed outcome to tells is = record {
  stopped = Failed faults.NoMemory;
  cause = inr refl;
  failed = failed;
  page = inr (subst (λ (n : ℕ). HoldsStatus n None failed (tried.page status)) (posts_size names linked mid posts to) (told_holds names status linked mid tried posts (length posts) None failed to tells));
  outcome_is = is;
  counts = counts_as {hidden = hidden} linked.faults tried.faults outcome (unless_failed failed (Failed faults.NoMemory)) is
      (causes_plain {hidden = hidden} linked.faults tried.faults (told_counts names status linked mid tried posts (length posts) None failed to tells (unless_read failed) (unless_write failed) (write_unless failed) (unless_open failed)));
}

performs_stopped : {A : Type 0} (arguments : WatchArguments) (words : List (List ℕ)) (it : A) (left later : Option (List Letter)) (missed : ℕ) (before linked tried closed now : Told) (posts : List PostSeen) (outcome : OutcomeView) → IsWatchForm arguments words → OpenedLink (before.live.wire arguments.relay.link) left → OpensLink {A = A} arguments.relay.link (Ok it) before linked
    → Tried arguments.relay.posts arguments.status linked tried → later ≡ left → missed ≡ 0 → AreFreshNamed arguments.relay.posts posts → ClosesPosts posts tried closed → ClosesLink arguments.relay.link later missed closed now
    → StopsAt ((outcome ≡ Failed faults.Read) × AnyFailed (files_of_watch arguments) now) arguments.status (length arguments.relay.posts) linked tried outcome → Performs (watch_relay before.live now.live) arguments before now outcome
performs_stopped {A} arguments words it left later missed before linked tried closed now posts outcome form letters opens to unread none fresh closings close at =
    let hidden : Type 0 = (outcome ≡ Failed faults.Read) × AnyFailed (files_of_watch arguments) now in
    let closes = closes_to posts tried closed closings in
    let still : closed.faults ≡ tried.faults = fresh_counts posts tried closed fresh.0 closes in
    let first : linked.faults ≡ before.faults = counts_stay before.faults linked.faults opens.counts (λ e. absurd cc) in
    let last : now.faults ≡ tried.faults = close.counts ∙ ap (λ (n : ℕ). after_source closed.faults n) none ∙ still in
    let page : now.page arguments.status ≡ tried.page arguments.status = close.pages arguments.status ∙ closes.pages arguments.status in
    let mails : (name : List ℕ) → tried.live.mail name ≡ before.live.mail name = λ name. ap (λ (l : Live). l.mail name) to.same ∙ ap (λ (l : Live). l.mail name) opens.live in
    record {
      named = are_files arguments words form;
      opened = suc to.opened;
      opens = watch_opens {A = A} arguments.relay.link arguments.relay.posts arguments.status it later missed posts before linked tried closed now opens to closes close;
      does = (
        watch_touches {A = A} arguments.relay.link arguments.relay.posts arguments.status it later missed posts before linked tried closed now fresh.1 opens to closes close,
        status_is (λ page page_now. StopsWatched arguments before.live now.live page page_now outcome ⊎ ((suc to.opened ≡ suc (suc (length arguments.relay.posts))) × RelaysWatched arguments before.live now.live page_now outcome))
            arguments.relay.link arguments.relay.posts arguments.status before now (inl (record {
              stopped = at.stopped;
              stops = record {
                unheard = inr (subst (λ (r : Option Remainder). LeavesAll (before.live.wire arguments.relay.link) r) (sym close.own)
                    (subst (λ (l : Option (List Letter)). LeavesAll (before.live.wire arguments.relay.link) (remainder_of l missed)) (sym unread) (leaves_all (before.live.wire arguments.relay.link) left missed letters none)));
                unsent = λ name. unsent_on before.live now.live closed.live name (close.mails name)
                    (subst (λ (m : _). (closed.live.mail name ≡ m) ⊎ IsUnsent (closed.live.mail name)) (mails name) (fresh_mails posts tried closed fresh.0 closings name));
                cause = at.cause;
              };
              failed = at.failed;
              status = elim at.page [
                | inl same ↦ inl (page ∙ same.0 ∙ opens.pages arguments.status, same.1)
                | inr holds ↦ inr (subst (λ (p : Page). HoldsStatus (length arguments.relay.posts) None at.failed p) (sym page) holds)
              ];
              outcome_is = at.outcome_is;
            })),
      );
      counts = causes_then before.faults linked.faults now.faults first
          (subst (λ (f : Faults). HasCausesBeside hidden linked.faults f (outcome ≡ Failed faults.Read) (outcome ≡ Failed faults.Write) (outcome ≡ Failed faults.Open)) (sym last) at.counts);
    }

-- ---- nothing was opened

touches_nothing : (link : List ℕ) (posts : List (List ℕ)) (before now : Live) → now ≡ before → TouchesWatched link posts before now
touches_nothing link posts before now same = record {
  made = inl (ap (λ (l : Live). l.made) same);
  others = record {
    wires = λ name. ap (λ (l : Live). l.wire name) same;
    others = λ name other. ap (λ (l : Live). l.left name) same;
    mails = λ name none. ap (λ (l : Live). l.mail name) same;
    clocks = (ap (λ (l : Live). l.readings) same, refl);
  };
}

stops_nothing : (arguments : WatchArguments) (before now : Live) (page page_now : Page) (outcome : OutcomeView) → now ≡ before → page_now ≡ page → (outcome ≡ Failed faults.Open) ⊎ (outcome ≡ Failed faults.NoMemory) → StopsWatched arguments before now page page_now outcome
stops_nothing arguments before now page page_now outcome same page_same cause = record {
  stopped = outcome;
  stops = record {
    unheard = inl (ap (λ (l : Live). l.left arguments.relay.link) same);
    unsent = λ name. inl (ap (λ (l : Live). l.mail name) same);
    cause = cause;
  };
  failed = false;
  status = inl (page_same, refl);
  outcome_is = refl;
}

-- there was no room
pub performs_unroomed : (arguments : WatchArguments) (words : List (List ℕ)) (told : Told) → IsWatchForm arguments words → Performs (watch_relay told.live told.live) arguments told told (Failed faults.NoMemory)
performs_unroomed arguments words told is = record {
  named = are_files arguments words is;
  opened = 0;
  opens = opens_none (files_of_watch arguments) told told refl (λ name. refl) (λ name. refl);
  does = (
    touches_nothing arguments.relay.link arguments.relay.posts told.live told.live refl,
    status_is (λ page page_now. StopsWatched arguments told.live told.live page page_now (Failed faults.NoMemory) ⊎ ((0 ≡ suc (suc (length arguments.relay.posts))) × RelaysWatched arguments told.live told.live page_now (Failed faults.NoMemory)))
        arguments.relay.link arguments.relay.posts arguments.status told told (inl (stops_nothing arguments told.live told.live (told.page arguments.status) (told.page arguments.status) (Failed faults.NoMemory) refl refl (inr refl))),
  );
  counts = memory_counts told.faults told.faults refl;
}

-- the link wasn't opened
pub performs_unlinked : {A : Type 0} (arguments : WatchArguments) (words : List (List ℕ)) (refusal : OpenRefusal) (fault : Fault) (before now : Told) → IsWatchForm arguments words → fault ≡ unopened refusal → OpensLink {A = A} arguments.relay.link (Err refusal) before now → Performs (watch_relay before.live now.live) arguments before now (Failed fault)
performs_unlinked {A} arguments words refusal fault before now form is tried =
    let it = link_tried {A = A} arguments.relay.link (map OfPost arguments.relay.posts ++ OfSink arguments.status ∷ []) refusal before now tried in
    let not_all = refused_not_all {A = A} refusal before now tried.counts in
    subst (λ (f : Fault). Performs (watch_relay before.live now.live) arguments before now (Failed f)) (sym is) (record {
      named = are_files arguments words form;
      opened = it.0;
      opens = it.1;
      does = (
        touches_nothing arguments.relay.link arguments.relay.posts before.live now.live tried.live,
        status_is (λ page page_now. StopsWatched arguments before.live now.live page page_now (Failed (unopened refusal)) ⊎ ((it.0 ≡ suc (suc (length arguments.relay.posts))) × RelaysWatched arguments before.live now.live page_now (Failed (unopened refusal))))
            arguments.relay.link arguments.relay.posts arguments.status before now (inl (stops_nothing arguments before.live now.live (before.page arguments.status) (now.page arguments.status) (Failed (unopened refusal)) tried.live (tried.pages arguments.status) (outcome_cause (unopened refusal) not_all.cause))),
      );
      counts = not_all_counts (unopened refusal) before now not_all;
    })

-- ---- the link was relayed

or_either : (a b : Bool) → (a || b) ≡ true → (a ≡ true) ⊎ (b ≡ true)
or_either true b e = inl refl
or_either false b e = inr e

either_or : (a b : Bool) → (a ≡ true) ⊎ (b ≡ true) → (a || b) ≡ true
either_or true b either = refl
either_or false b (inl e) = absurd cc
either_or false b (inr e) = e

relayed_counts : (arguments : WatchArguments) (left later : Option (List Letter)) (missed : ℕ) (linked mid tried closed now : Told) (opened posts : List PostSeen) (outcome : OutcomeView) (to : OpensTo arguments.relay.posts opened linked mid (Ok tt)) (runs : WatchesRelay arguments.relay.capacity arguments.status left later 0 missed mid tried opened posts outcome)
    → HasMails posts now → map post_name posts ≡ arguments.relay.posts → ClosesTo posts tried closed → ClosesLink arguments.relay.link later missed closed now
    → HasCausesBeside ((outcome ≡ Failed faults.Read) × AnyFailed (files_of_watch arguments) now) linked.faults now.faults (outcome ≡ Failed faults.Read) (outcome ≡ Failed faults.Write) (outcome ≡ Failed faults.Open)
relayed_counts arguments left later missed linked mid tried closed now opened posts outcome to runs mails named closes close =
    let names = arguments.relay.posts in
    let status = arguments.status in
    let failed = runs.failed || list_any has_failed runs.counts in
    let arrived = datagrams runs.relays.taken in
    let own = told_counts names status linked mid tried opened (length opened) (Some runs.counts) runs.failed to runs.tells {read = ⊥} {write = runs.failed ≡ true} {opening = ⊥} (λ e. e) (λ e. e) (λ e. e) (λ e. e) in
    let from : (fault : Fault) → outcome ≡ Failed fault → outcome_with runs.end failed runs.counts ≡ Failed fault = λ fault e. sym runs.outcome_is ∙ e in
    let back : (fault : Fault) → outcome_with runs.end failed runs.counts ≡ Failed fault → outcome ≡ Failed fault = λ fault e. runs.outcome_is ∙ e in
    let source = causes_source {read = outcome ≡ Failed faults.Read} {write = ⊥} {opening = ⊥} closed.faults now.faults missed close.counts runs.read
    (λ e. read_end runs.end failed runs.counts (from faults.Read e)) (λ e. back faults.Read (end_read runs.end failed runs.counts e)) (λ never. never) (λ never. never) in
    let reads : closed.faults.reads ≡ linked.faults.reads = closes.reads ∙ own.reads.still (λ e. e) in
    let writes : now.faults.writes ≡ closed.faults.writes = ap (λ (f : Faults). f.writes) close.counts in
    let openings : now.faults.openings ≡ linked.faults.openings = ap (λ (f : Faults). f.openings) close.counts ∙ closes.openings ∙ own.openings.still (λ e. e) in
    let both : HasCause linked.faults.writes now.faults.writes ((runs.failed ≡ true) ⊎ AnyFaulty posts) =
    subst (λ (n : ℕ). HasCause linked.faults.writes n ((runs.failed ≡ true) ⊎ AnyFaulty posts)) (sym writes)
    (cause_both linked.faults.writes tried.faults.writes closed.faults.writes own.writes closes.writes (λ either. either) (λ either. either)) in
    let counted : AnyFaulty posts → list_any has_failed runs.counts ≡ true = faulty_counted arguments.relay.capacity arrived opened posts runs.counts to.fresh runs.relays.posts in
    let page : now.page status ≡ tried.page status = close.pages status ∙ closes.pages status in
    let told : (runs.failed ≡ true) ⊎ AnyFaulty posts → AnyFailed (files_of_watch arguments) now = λ either. elim either [
      | inl own ↦ failed_back (map OfPost names) (OfSink status ∷ []) now (inl (subst (λ (p : Page). HasFailed p) (sym page) (told_failed names status linked mid tried opened (length opened) (Some runs.counts) runs.failed to runs.tells own)))
      | inr faulty ↦ failed_prefix (map OfPost names) (OfSink status ∷ []) now (subst (λ (ns : List (List ℕ)). AnyFailed (map OfPost ns) now) named (faulty_told posts now mails faulty))
    ] in
    record {
      reads = subst (λ (n : ℕ). HasCause n now.faults.reads (outcome ≡ Failed faults.Read)) reads source.reads;
      writes = record {
        stays = both.stays;
        rose = λ e. both.rose (elim (or_either runs.failed (list_any has_failed runs.counts) (write_failed runs.end failed runs.counts (from faults.Write e))) [
          | inl own ↦ inl own
          | inr any ↦ inr (counted_faulty arguments.relay.capacity arrived opened posts runs.counts to.fresh runs.relays.posts any)
        ]);
        still = λ none clear. both.still (λ either.
            elim (failed_either runs.end failed runs.counts (either_or runs.failed (list_any has_failed runs.counts) (elim either [ inl own ↦ inl own | inr faulty ↦ inr (counted faulty) ]))) [
              | inl read ↦ clear (back faults.Read read, told either)
              | inr write ↦ none (back faults.Write write)
            ]);
      };
      openings = cause_none linked.faults.openings now.faults.openings openings (λ e. no_open runs.end failed runs.counts (from faults.Open e));
    }

performs_relayed : {A : Type 0} (arguments : WatchArguments) (words : List (List ℕ)) (it : A) (left later : Option (List Letter)) (missed : ℕ) (before linked mid tried closed now : Told) (opened posts : List PostSeen) (outcome : OutcomeView) → IsWatchForm arguments words → OpenedLink (before.live.wire arguments.relay.link) left → OpensLink {A = A} arguments.relay.link (Ok it) before linked
    → OpensTo arguments.relay.posts opened linked mid (Ok tt) → WatchesRelay arguments.relay.capacity arguments.status left later 0 missed mid tried opened posts outcome → ClosesTo posts tried closed → ClosesLink arguments.relay.link later missed closed now → Performs (watch_relay before.live now.live) arguments before now outcome
unfolding tried_told
performs_relayed {A} arguments words it left later missed before linked mid tried closed now opened posts outcome form letters opens to runs closes close =
    let names = arguments.relay.posts in
    let capacity = arguments.relay.capacity in
    let arrived = datagrams runs.relays.taken in
    let named : map post_name posts ≡ names = names_kept capacity arrived opened posts runs.counts runs.relays.posts ∙ (to.whole refl).names_are in
    let mails : HasMails posts now = mails_same posts closed now close.mails (closes.mails (subst AreDistinct (sym named) form.spelled.rest.rest.rest.first.distinct)) in
    let sent : SendPosts capacity arrived names now.live runs.counts =
    subst (λ (ns : List (List ℕ)). SendPosts capacity arrived ns now.live runs.counts) named (sends_posts capacity arrived opened posts runs.counts now to.fresh mails runs.relays.posts) in
    let first : linked.faults ≡ before.faults = counts_stay before.faults linked.faults opens.counts (λ e. absurd cc) in
    let at : Tried names arguments.status linked tried = tried_told names arguments.status linked mid tried opened (length opened) (Some runs.counts) runs.failed to runs.tells in
    let size : at.opened ≡ suc (length names) = let is : at.opened ≡ length (map OfPost names) + 1 = refl in omega (arith, is, length-map names OfPost) in
    let page : now.page arguments.status ≡ tried.page arguments.status = close.pages arguments.status ∙ closes.pages arguments.status in
    let failed = runs.failed || list_any has_failed runs.counts in
    record {
      named = are_files arguments words form;
      opened = suc at.opened;
      opens = watch_opens {A = A} arguments.relay.link names arguments.status it later missed posts before linked tried closed now opens at closes close;
      does = (
        watch_touches {A = A} arguments.relay.link names arguments.status it later missed posts before linked tried closed now
            (λ name none. subst (λ (ns : List (List ℕ)). IsNoneOf name ns) (sym named) none) opens at closes close,
        status_is (λ page page_now. StopsWatched arguments before.live now.live page page_now outcome ⊎ ((suc at.opened ≡ suc (suc (length names))) × RelaysWatched arguments before.live now.live page_now outcome))
            arguments.relay.link names arguments.status before now (inr (
              ap suc size,
              record {
                taken = runs.relays.taken;
                link = subst (λ (r : Option Remainder). LeftWhere runs.relays.taken (before.live.wire arguments.relay.link) r) (sym close.own) (left_where runs.relays.taken (before.live.wire arguments.relay.link) left later missed letters runs.relays.left_is);
                counts = runs.counts;
                posts = sent;
                made = close.clocks.1 ∙ closes.clocks.1 ∙ told_made names arguments.status linked mid tried opened (length opened) (Some runs.counts) runs.failed to runs.tells ∙ ap (λ (l : Live). option_map raised l.made) opens.live;
                failed = runs.failed;
                status = subst (λ (p : Page). HoldsStatus (length names) (Some runs.counts) runs.failed p) (sym page)
                    (subst (λ (n : ℕ). HoldsStatus n (Some runs.counts) runs.failed (tried.page arguments.status)) (posts_size names linked mid opened to) (told_holds names arguments.status linked mid tried opened (length opened) (Some runs.counts) runs.failed to runs.tells));
                ends = subst (λ (r : Option Remainder). EndsAs r failed runs.counts outcome) (sym close.own)
                    (subst (λ (c : OutcomeView). EndsAs (remainder_of later missed) failed runs.counts c) (sym runs.outcome_is) (ends_as runs.end failed runs.counts later missed runs.read runs.relays.ended));
              },
            )),
      );
      counts = causes_then before.faults linked.faults now.faults first (relayed_counts arguments left later missed linked mid tried closed now opened posts outcome to runs mails named closes close);
    }

-- ---- the link was opened, something or nothing was relayed, and all was closed

-- nothing was, though all posts were opened
performs_idle : {A : Type 0} (arguments : WatchArguments) (words : List (List ℕ)) (it : A) (left later : Option (List Letter)) (missed : ℕ) (before linked mid tried closed now : Told) (opened posts : List PostSeen) (outcome : OutcomeView) → IsWatchForm arguments words → OpenedLink (before.live.wire arguments.relay.link) left → OpensLink {A = A} arguments.relay.link (Ok it) before linked
    → OpensTo arguments.relay.posts opened linked mid (Ok tt) → Tried arguments.relay.posts arguments.status linked tried → IsUnread left later 0 missed opened posts → ClosesPosts posts tried closed → ClosesLink arguments.relay.link later missed closed now
    → StopsAt ((outcome ≡ Failed faults.Read) × AnyFailed (files_of_watch arguments) now) arguments.status (length arguments.relay.posts) linked tried outcome → Performs (watch_relay before.live now.live) arguments before now outcome
performs_idle {A} arguments words it left later missed before linked mid tried closed now opened posts outcome form letters opens to at unread closings close stops =
    performs_stopped {A = A} arguments words it left later missed before linked tried closed now opened outcome form letters opens at unread.left_is unread.missed_is
    (to.fresh, λ name none. none_of_opened name arguments.relay.posts opened linked mid (Ok tt) to none)
    (subst (λ (ps : List PostSeen). ClosesPosts ps tried closed) unread.posts_are closings) close stops

performs_posts : {A : Type 0} (arguments : WatchArguments) (words : List (List ℕ)) (it : A) (left later : Option (List Letter)) (missed : ℕ) (before linked tried closed now : Told) (posts : List PostSeen) (outcome : OutcomeView) → IsWatchForm arguments words → OpenedLink (before.live.wire arguments.relay.link) left → OpensLink {A = A} arguments.relay.link (Ok it) before linked
    → RunsPosts arguments.relay.capacity arguments.relay.posts arguments.status left later 0 missed linked tried posts outcome → ClosesPosts posts tried closed → ClosesLink arguments.relay.link later missed closed now → Performs (watch_relay before.live now.live) arguments before now outcome
performs_posts {A} arguments words it left later missed before linked tried closed now posts outcome form letters opens (inl refused) closings close =
    let names = arguments.relay.posts in
    let to = opens_to names linked tried posts (Err refused.fault) refused.opens in
    performs_stopped {A = A} arguments words it left later missed before linked tried closed now posts outcome form letters opens (tried_posts names arguments.status linked tried posts (Err refused.fault) to)
    refused.unread.left_is refused.unread.missed_is (to.fresh, λ name none. none_of_opened name names posts linked tried (Err refused.fault) to none) closings close
    (stops_post names arguments.status linked tried posts refused.fault outcome to refused.outcome_is)
performs_posts {A} arguments words it left later missed before linked tried closed now posts outcome form letters opens (inr all) closings close =
    let names = arguments.relay.posts in
    let status = arguments.status in
    let opened = all.opened in
    let to = opens_to names linked all.mid opened (Ok tt) all.opens in
    elim all.runs [
      | inl (unread, inl none) ↦
          performs_idle {A = A} arguments words it left later missed before linked all.mid tried closed now opened posts outcome form letters opens to
          (elim none.lacks [
            | inl (same, why) ↦ subst (λ (t : Told). Tried names status linked t) (sym same) (tried_posts names status linked all.mid opened (Ok tt) to)
            | inr (refusal, refused, why) ↦ tried_refused names status linked all.mid tried opened refusal to refused
          ]) unread closings close (stops_status names status linked all.mid tried opened none.fault outcome to none.lacks none.outcome_is)
      | inl (unread, inr nothing) ↦
          performs_idle {A = A} arguments words it left later missed before linked all.mid tried closed now opened posts outcome form letters opens to
          (tried_told names status linked all.mid tried opened (length opened) None nothing.failed to nothing.tells) unread closings close (stops_memory names status linked all.mid tried opened nothing.failed outcome to nothing.tells nothing.outcome_is)
      | inr runs ↦ performs_relayed {A = A} arguments words it left later missed before linked all.mid tried closed now opened posts outcome form letters opens to runs (closes_to posts tried closed closings) close
    ]

pub performs_linked : {A : Type 0} (arguments : WatchArguments) (words : List (List ℕ)) (it : A) (link : List ℕ) (left : Option (List Letter)) (before linked now : Told) (outcome : OutcomeView) → IsWatchForm arguments words → link ≡ arguments.relay.link → OpenedLink (before.live.wire arguments.relay.link) left → OpensLink {A = A} arguments.relay.link (Ok it) before linked
    → RunsLinked arguments.relay.capacity arguments.relay.posts arguments.status link left linked now outcome → Performs (watch_relay before.live now.live) arguments before now outcome
performs_linked {A} arguments words it link left before linked now outcome form own letters opens runs =
    performs_posts {A = A} arguments words it left runs.later runs.missed before linked runs.mid runs.closed now runs.posts outcome form letters opens runs.runs runs.closes_posts
    (subst (λ (n : List ℕ). ClosesLink n runs.later runs.missed runs.closed now) own runs.closes_link)
