-- What the command did, from its openings and closings.
use Rattle.std.proofs.Common.{◌≡◌, ◌∙◌, ◌⊎◌, inl, inr, ℕ, suc, Ok, Err, List, [], ◌∷◌, Option, Some, map, take, refl, sym, ap, subst}
use Rattle.std.specs.Option.{option_map}
use Rattle.tesla_desk.specs.Faults.{Faults, HasCauses, HasCausesBeside, after_source, raised}
use Rattle.tesla_desk.specs.Live.{Live}
use Rattle.tesla_desk.specs.Outside.{ClosesSource, Holds, OfPost, OfSource, Opened, OpensSource, Page, Told, Untold, Absent}
use Rattle.tesla_desk.specs.declared.desk.OpenRefusal.{OpenRefusal}
use Rattle.tesla_desk.proofs.Counts.{cause_none, causes_both, causes_plain, causes_source, causes_then, counts_stay}
use Rattle.tesla_front.specs.OutcomeView.{OutcomeView, Failed}
use Rattle.tesla_front.specs.Command.{Performs}
use Rattle.tesla_front.specs.Fault.{unopened}
use Rattle.tesla_front.specs.Files.{HoldsWhere}
use Rattle.tesla_front.specs.Openings.{AnyFailed, AreFiles, Opens}
use Rattle.tesla_front.specs.declared.fault.Fault.{Fault}
use Rattle.tesla_front.specs.declared.fault.Fault.TheVariants as faults
use Rattle.tesla_front.proofs.Openings.{not_first_read, opens_first, opens_none, opens_some, opens_then, source_tried}
use Rattle.tesla_front.specs.Names.{AreDistinct, IsNoneOf}
use Rattle.tesla_relay.specs.Play.{FileTo, Played, bytes_of}
use Rattle.tesla_relay.specs.declared.playing.PlayEnd.{PlayEnd}
use Rattle.tesla_relay.specs.declared.playing.PlayEnd.TheVariants as ends
use Rattle.tesla_relay.specs.Clocks.{ReadWhere}
use Rattle.tesla_relay.specs.Closed.{AnyFaulty, ClosesTo, IsUnsent}
use Rattle.tesla_relay.specs.Opened.{OpensTo, post_name}
use Rattle.tesla_relay.specs.Opening.{ClosesPosts}
use Rattle.tesla_relay.specs.Posts.{PostSeen}
use Rattle.tesla_relay.proofs.Closings.{closes_to, fresh_counts, fresh_mails}
use Rattle.tesla_relay.proofs.Clocks.{clock_alone, clock_made, clock_opens, live_alone, read_where}
use Rattle.tesla_relay.proofs.Mails.{unsent_on}
use Rattle.tesla_relay.proofs.Openings.{none_of_opened, opens_new, opens_still, post_files, refused_not_all}
use Rattle.tesla_relay.proofs.Stopped.{outcome_cause, memory_counts, not_all_counts}
use Rattle.tesla_run_relay.specs.play.Arguments.{PlayArguments, IsPlayForm, files_of_play}
use Rattle.tesla_run_relay.specs.play.Playing.{PostsHold, TouchesPosts, outcome_with, play}
use Rattle.tesla_run_relay.specs.play.Steps.{OpensAndPlays, PlaysOpen, Refuses, RunsOpened}
use Rattle.tesla_run_relay.proofs.play.Sent.{end_faulty, faulty_end, names_stay, posts_hold}

-- ---- the files

-- none of the files is the console
are_files : (arguments : PlayArguments) (words : List (List ℕ)) → IsPlayForm arguments words → AreFiles (files_of_play arguments)
are_files arguments words is = (is.spelled.rest.first.0.file, post_files arguments.posts is.spelled.rest.rest.first.each)

-- ---- what is told of links, posts and clocks

touches_nothing : (posts : List (List ℕ)) (before now : Live) → now ≡ before → TouchesPosts posts before now
touches_nothing posts before now same = record {
  wires = λ name. ap (λ (l : Live). l.wire name) same;
  lefts = λ name. ap (λ (l : Live). l.left name) same;
  mails = λ name none. ap (λ (l : Live). l.mail name) same;
  readings = ap (λ (l : Live). l.readings) same;
}

-- ---- nothing was opened

-- there was no room for the posts
pub performs_roomless : (arguments : PlayArguments) (words : List (List ℕ)) (before : Told) → IsPlayForm arguments words → Performs (play before.live before.live) arguments before before (Failed faults.NoMemory)
performs_roomless arguments words before is = record {
  named = are_files arguments words is;
  opened = 0;
  opens = opens_none (files_of_play arguments) before before refl (λ name. refl) (λ name. refl);
  does = (touches_nothing arguments.posts before.live before.live refl, inl (record { unread = inl refl; unsent = λ name. inl refl; made = refl; cause = inr refl }));
  counts = memory_counts before.faults before.faults refl;
}

-- the capture wasn't opened
pub performs_unopened : {A : Type 0} (arguments : PlayArguments) (words : List (List ℕ)) (refusal : OpenRefusal) (fault : Fault) (before now : Told) → IsPlayForm arguments words → fault ≡ unopened refusal → OpensSource {A = A} arguments.capture (Err refusal) before now → Performs (play before.live now.live) arguments before now (Failed fault)
performs_unopened {A} arguments words refusal fault before now is fault_is tried =
    let some = opens_some (OfSource arguments.capture) (map OfPost arguments.posts) before now (source_tried {A = A} arguments.capture (Err refusal) before now tried) in
    let not_all = refused_not_all {A = A} refusal before now tried.counts in
    subst (λ (f : Fault). Performs (play before.live now.live) arguments before now (Failed f)) (sym fault_is) (record {
      named = are_files arguments words is;
      opened = some.0;
      opens = some.2;
      does = (
        touches_nothing arguments.posts before.live now.live tried.live,
        inl (record {
          unread = inl (tried.lefts arguments.capture);
          unsent = λ name. inl (ap (λ (l : Live). l.mail name) tried.live);
          made = ap (λ (l : Live). l.made) tried.live;
          cause = outcome_cause (unopened refusal) not_all.cause;
        }),
      );
      counts = not_all_counts (unopened refusal) before now not_all;
    })

-- ---- the capture was opened

left_where : (page : Page) (left later : Option (List ℕ)) → Opened page left → later ≡ left → HoldsWhere page (λ bytes. later ≡ Some bytes)
left_where Untold left later opened same = tt
left_where Absent left later opened same = opened
left_where (Holds bytes failed) left later opened same = same ∙ opened

file_where : (end : PlayEnd) (page : Page) (left later now : Option (List ℕ)) (played : List Played) → Opened page left → now ≡ later → ((bytes : List ℕ) → left ≡ Some bytes → FileTo end bytes later played) → HoldsWhere page (λ bytes. FileTo end bytes now played)
file_where end Untold left later now played opened same file = tt
file_where end Absent left later now played opened same file = opened
file_where end (Holds bytes failed) left later now played opened same file = subst (λ (l : Option (List ℕ)). FileTo end bytes l played) (sym same) (file bytes opened)

ends_read : (end : PlayEnd) → outcome_with end ≡ Failed faults.Read → end ≡ ends.ReadFault
ends_read (ends.Ended sent) e = absurd cc
ends_read (ends.Refused offset kind) e = absurd cc
ends_read ends.ReadFault e = refl
ends_read ends.PostFault e = absurd cc

ends_write : (end : PlayEnd) → outcome_with end ≡ Failed faults.Write → end ≡ ends.PostFault
ends_write (ends.Ended sent) e = absurd cc
ends_write (ends.Refused offset kind) e = absurd cc
ends_write ends.ReadFault e = absurd cc
ends_write ends.PostFault e = refl

ends_open : (end : PlayEnd) → outcome_with end ≡ Failed faults.Open → ⊥
ends_open (ends.Ended sent) e = absurd cc
ends_open (ends.Refused offset kind) e = absurd cc
ends_open ends.ReadFault e = absurd cc
ends_open ends.PostFault e = absurd cc

either_read : (end : PlayEnd) → ⊥ ⊎ (outcome_with end ≡ Failed faults.Read) → outcome_with end ≡ Failed faults.Read
either_read end (inl never) = absurd never
either_read end (inr read) = read

either_write : (posts : List PostSeen) (end : PlayEnd) → (AnyFaulty posts → outcome_with end ≡ Failed faults.Write) → AnyFaulty posts ⊎ ⊥ → outcome_with end ≡ Failed faults.Write
either_write posts end write (inl failed) = write failed
either_write posts end write (inr never) = absurd never

neither : ⊥ ⊎ ⊥ → ⊥
neither (inl never) = never
neither (inr never) = never

module _ (arguments : PlayArguments) (words : List (List ℕ)) (left : Option (List ℕ)) (before mid now : Told) (is : IsPlayForm arguments words) (opened : Opened (before.page arguments.capture) left) (source_live : mid.live ≡ before.live) (source_counts : mid.faults ≡ before.faults) (source_opens : Opens (OfSource arguments.capture ∷ []) 1 before mid) (posts : List PostSeen) (tried closed : Told) (later : Option (List ℕ)) (missed : ℕ)
    (closes : ClosesTo posts tried closed) (source_closed : ClosesSource arguments.capture later missed closed now) where
  -- the capture and so many posts were asked to be opened, and nothing else was
  all_opens : (n : ℕ) → Opens (map OfPost arguments.posts) n mid tried → Opens (files_of_play arguments) (suc n) before now
  all_opens n opens =
      let still = opens_still (map OfPost arguments.posts) n mid tried closed opens closes.asked closes.pages closes.lefts in
      let both = opens_then (OfSource arguments.capture) (map OfPost arguments.posts) n before mid closed source_opens still in
      record {
        asked = source_closed.asked ∙ both.asked;
        pages = λ name none. source_closed.pages name ∙ both.pages name none;
        lefts = λ name none. source_closed.lefts name (not_first_read name arguments.capture (take n (map OfPost arguments.posts)) none) ∙ both.lefts name none;
      }

  all_touches : tried.live ≡ record before.live { made = tried.live.made } → ((name : List ℕ) → IsNoneOf name arguments.posts → IsNoneOf name (map post_name posts)) → TouchesPosts arguments.posts before.live now.live
  all_touches same none_of = record {
    wires = λ name. ap (λ (l : Live). l.wire name) source_closed.live ∙ closes.wires name ∙ ap (λ (l : Live). l.wire name) same;
    lefts = λ name. ap (λ (l : Live). l.left name) source_closed.live ∙ closes.remainders name ∙ ap (λ (l : Live). l.left name) same;
    mails = λ name none. ap (λ (l : Live). l.mail name) source_closed.live ∙ closes.others name (none_of name none) ∙ ap (λ (l : Live). l.mail name) same;
    readings = ap (λ (l : Live). l.readings) source_closed.live ∙ closes.clocks.0 ∙ ap (λ (l : Live). l.readings) same;
  }

  all_made : now.live.made ≡ tried.live.made
  all_made = ap (λ (l : Live). l.made) source_closed.live ∙ closes.clocks.1

  fresh_closed : missed ≡ 0 → now.faults ≡ closed.faults
  fresh_closed none = source_closed.counts ∙ ap (λ (n : ℕ). after_source closed.faults n) none

  -- ---- a post wasn't opened

  module _ (posts_closed : ClosesPosts posts tried closed) (outcome : OutcomeView) (refuses : Refuses arguments.posts left later 0 missed mid tried posts outcome) where
    refused_to : OpensTo arguments.posts posts mid tried (Err refuses.fault)
    refused_to = opens_new arguments.posts mid tried posts (Err refuses.fault) refuses.opens

    refused_live : tried.live ≡ before.live
    refused_live = refused_to.live ∙ source_live

    refused_unsent : (name : List ℕ) → (now.live.mail name ≡ before.live.mail name) ⊎ IsUnsent (now.live.mail name)
    refused_unsent name =
        unsent_on before.live now.live closed.live name (ap (λ (l : Live). l.mail name) source_closed.live)
        (subst (λ (l : Live). (closed.live.mail name ≡ l.mail name) ⊎ IsUnsent (closed.live.mail name)) refused_live (fresh_mails posts tried closed refused_to.fresh posts_closed name))

    refused_faults : now.faults ≡ tried.faults
    refused_faults = fresh_closed refuses.same.1 ∙ fresh_counts posts tried closed refused_to.fresh closes

    pub performs_refused : Performs (play before.live now.live) arguments before now outcome
    performs_refused =
        let fault = refuses.fault in
        let not_all = refused_to.refused fault refl in
        let counts = causes_then before.faults mid.faults tried.faults source_counts (not_all_counts {hidden = (Failed fault ≡ Failed faults.Read) × AnyFailed (files_of_play arguments) now} fault mid tried not_all) in
        subst (λ (c : OutcomeView). Performs (play before.live now.live) arguments before now c) (sym refuses.outcome_is) (record {
          named = are_files arguments words is;
          opened = suc refused_to.opened;
          opens = all_opens refused_to.opened refused_to.opens;
          does = (
            all_touches (live_alone before.live tried.live refused_live) (λ name none. none_of_opened name arguments.posts posts mid tried (Err refuses.fault) refused_to none),
            inl (record {
              unread = inr (left_where (before.page arguments.capture) left (now.left arguments.capture) opened (source_closed.own ∙ refuses.same.0));
              unsent = refused_unsent;
              made = all_made ∙ ap (λ (l : Live). l.made) refused_live;
              cause = outcome_cause fault not_all.cause;
            }),
          );
          counts = subst (λ (f : Faults). HasCausesBeside ((Failed fault ≡ Failed faults.Read) × AnyFailed (files_of_play arguments) now) before.faults f (Failed fault ≡ Failed faults.Read) (Failed fault ≡ Failed faults.Write) (Failed fault ≡ Failed faults.Open)) (sym refused_faults) counts;
        })

  -- ---- all were opened

  module _ (outcome : OutcomeView) (open_plays : PlaysOpen arguments.posts left later 0 missed mid tried posts outcome) where
    played_to : OpensTo arguments.posts open_plays.fresh mid open_plays.opened (Ok tt)
    played_to = opens_new arguments.posts mid open_plays.opened open_plays.fresh (Ok tt) open_plays.opens

    played_live : open_plays.opened.live ≡ before.live
    played_live = played_to.live ∙ source_live

    played_alone : tried.live ≡ record before.live { made = tried.live.made }
    played_alone = clock_alone before open_plays.opened tried open_plays.made.makes played_live

    played_names : map post_name posts ≡ arguments.posts
    played_names = names_stay open_plays.end (map bytes_of open_plays.made.plays.played) open_plays.fresh posts open_plays.made.plays.posts_are ∙ (played_to.whole refl).names_are

    played_posts : PostsHold open_plays.end (map bytes_of open_plays.made.plays.played) arguments.posts now.live
    played_posts =
        let sent = map bytes_of open_plays.made.plays.played in
        let distinct : AreDistinct (map post_name posts) = subst AreDistinct (sym played_names) is.spelled.rest.rest.first.distinct in
        let held = posts_hold open_plays.end sent open_plays.fresh posts closed played_to.fresh open_plays.made.plays.posts_are (closes.mails distinct) in
        subst (λ (l : Live). PostsHold open_plays.end sent arguments.posts l) (sym source_closed.live)
        (subst (λ (names : List (List ℕ)). PostsHold open_plays.end sent names closed.live) (played_to.whole refl).names_are held)

    played_made : now.live.made ≡ option_map raised before.live.made
    played_made = all_made ∙ clock_made before open_plays.opened tried open_plays.made.makes played_live

    played_clock : ReadWhere open_plays.made.plays.readings before.live.readings before.live.made
    played_clock =
        subst (λ (l : Live). ReadWhere open_plays.made.plays.readings l.readings l.made) played_live
        (read_where open_plays.made.plays.readings open_plays.opened.live.readings open_plays.opened.live.made open_plays.made.after open_plays.made.plays.gives)

    played_file : HoldsWhere (before.page arguments.capture) (λ bytes. FileTo open_plays.end bytes (now.left arguments.capture) open_plays.made.plays.played)
    played_file = file_where open_plays.end (before.page arguments.capture) left later (now.left arguments.capture) open_plays.made.plays.played opened source_closed.own open_plays.made.plays.file

    played_faults : tried.faults ≡ before.faults
    played_faults = ap (λ (t : Told). t.faults) open_plays.made.makes.same ∙ (played_to.whole refl).counts ∙ source_counts

    played_causes : HasCauses tried.faults now.faults (outcome_with open_plays.end ≡ Failed faults.Read) (outcome_with open_plays.end ≡ Failed faults.Write) (outcome_with open_plays.end ≡ Failed faults.Open)
    played_causes =
        let end = open_plays.end in
        let sent = map bytes_of open_plays.made.plays.played in
        let first : HasCauses tried.faults closed.faults ⊥ (AnyFaulty posts) ⊥ = record {
          reads = cause_none tried.faults.reads closed.faults.reads closes.reads (λ never. never);
          writes = closes.writes;
          openings = cause_none tried.faults.openings closed.faults.openings closes.openings (λ never. never);
        } in
        let then : HasCauses closed.faults now.faults (outcome_with end ≡ Failed faults.Read) ⊥ ⊥ =
        causes_source {write = ⊥} {opening = ⊥} closed.faults now.faults missed source_closed.counts open_plays.read (ends_read end) (λ e. ap outcome_with e) (λ never. never) (λ never. never) in
        causes_both tried.faults closed.faults now.faults first then
        (λ e. inr e) (λ which. either_read end which)
        (λ e. inl (end_faulty end sent open_plays.fresh posts played_to.fresh open_plays.made.plays.posts_are (ends_write end e)))
        (λ which. either_write posts end (λ failed. ap outcome_with (faulty_end end sent open_plays.fresh posts played_to.fresh open_plays.made.plays.posts_are failed)) which)
        (λ e. absurd (ends_open end e)) (λ which. absurd (neither which))

    pub performs_played : Performs (play before.live now.live) arguments before now outcome
    performs_played =
        subst (λ (c : OutcomeView). Performs (play before.live now.live) arguments before now c) (sym open_plays.outcome_is) (record {
          named = are_files arguments words is;
          opened = suc played_to.opened;
          opens = all_opens played_to.opened (clock_opens mid open_plays.opened tried open_plays.made.makes (map OfPost arguments.posts) played_to.opened played_to.opens);
          does = (
            all_touches played_alone (λ name none. subst (λ (ns : List (List ℕ)). IsNoneOf name ns) (sym played_names) none),
            inr (
              ap suc (played_to.whole refl).all,
              record {
                end = open_plays.end;
                outcome_is = refl;
                played = open_plays.made.plays.played;
                limits = open_plays.made.plays.limits;
                readings = open_plays.made.plays.readings;
                paced = open_plays.made.plays.paced;
                clock = played_clock;
                made = played_made;
                file = played_file;
                count = open_plays.made.plays.count;
                posts = played_posts;
              },
            ),
          );
          counts = causes_then before.faults tried.faults now.faults played_faults (causes_plain tried.faults now.faults played_causes);
        })

performs_tried : (arguments : PlayArguments) (words : List (List ℕ)) (left : Option (List ℕ)) (before mid now : Told) (is : IsPlayForm arguments words) (opened : Opened (before.page arguments.capture) left) (source_live : mid.live ≡ before.live) (source_counts : mid.faults ≡ before.faults) (source_opens : Opens (OfSource arguments.capture ∷ []) 1 before mid) (posts : List PostSeen) (tried closed : Told) (later : Option (List ℕ)) (missed : ℕ)
    (posts_closed : ClosesPosts posts tried closed) (source_closed : ClosesSource arguments.capture later missed closed now) (outcome : OutcomeView) → OpensAndPlays arguments.posts left later 0 missed mid tried posts outcome → Performs (play before.live now.live) arguments before now outcome
performs_tried arguments words left before mid now is opened source_live source_counts source_opens posts tried closed later missed posts_closed source_closed outcome (inl refuses) =
    performs_refused arguments words left before mid now is opened source_live source_counts source_opens posts tried closed later missed (closes_to posts tried closed posts_closed) source_closed posts_closed outcome refuses
performs_tried arguments words left before mid now is opened source_live source_counts source_opens posts tried closed later missed posts_closed source_closed outcome (inr open_plays) =
    performs_played arguments words left before mid now is opened source_live source_counts source_opens posts tried closed later missed (closes_to posts tried closed posts_closed) source_closed outcome open_plays

-- the capture was opened, and then the posts were, and all was closed
pub performs_opened : {A : Type 0} (arguments : PlayArguments) (words : List (List ℕ)) (it : A) (name : List ℕ) (names : List (List ℕ)) (left : Option (List ℕ)) (before mid now : Told) (outcome : OutcomeView) → IsPlayForm arguments words → name ≡ arguments.capture → names ≡ arguments.posts → Opened (before.page arguments.capture) left → OpensSource {A = A} arguments.capture (Ok it) before mid → RunsOpened names name left mid now outcome → Performs (play before.live now.live) arguments before now outcome
performs_opened {A} arguments words it name names left before mid now outcome is own posts_are opened opens runs =
    let tries = subst (λ (ns : List (List ℕ)). OpensAndPlays ns left runs.later 0 runs.missed mid runs.tried runs.posts outcome) posts_are runs.tries in
    let source_closed = subst (λ (n : List ℕ). ClosesSource n runs.later runs.missed runs.closed now) own runs.source_closed in
    let first = opens_first (OfSource arguments.capture) [] before mid opens.asked (λ n none. opens.pages n) (λ n none. opens.lefts n) in
    performs_tried arguments words left before mid now is opened opens.live (counts_stay before.faults mid.faults opens.counts (λ e. absurd cc)) first runs.posts runs.tried runs.closed runs.later runs.missed runs.posts_closed source_closed outcome tries
