-- What the command did, from its steps.
use Rattle.std.proofs.Common.{◌≡◌, inl, inr, ℕ, ◌+◌, Bool, Option, Some, None, List, [], ◌∷◌, ◌++◌, length, map, refl, sym, ap, subst, arith}
use Rattle.tesla_desk.specs.Live.{Live}
use Rattle.tesla_desk.specs.Outside.{OfPost, Opening, Page, Told}
use Rattle.tesla_desk.specs.Faults.{Faults}
use Rattle.tesla_desk.proofs.Counts.{cause_none, causes_as, causes_plain, causes_then}
use Rattle.tesla_front.specs.OutcomeView.{OutcomeView, Failed}
use Rattle.tesla_front.specs.declared.fault.Fault.{Fault}
use Rattle.tesla_front.specs.declared.fault.Fault.TheVariants as faults
use Rattle.tesla_front.specs.Command.{Performs}
use Rattle.tesla_front.specs.Forms.{AreSpelled}
use Rattle.tesla_front.specs.Openings.{AreFiles, file_told, files_told, name_of}
use Rattle.tesla_front.proofs.Behind.{failed_back, opens_more, opens_prefix}
use Rattle.tesla_relay.proofs.Openings.{post_files}
use Rattle.tesla_run_feed.specs.Arguments.{FeedArguments, IsFeedForm, StatusArguments, files_of_feed, live_files, sources_of, status_files, status_parts}
use Rattle.tesla_run_feed.specs.Feeding.{AreSoundIn, FeedsStreams, LackSoundSeeds, LacksList, LacksSoundSeeds, TouchesLive, feed, pages_of, status_page}
use Rattle.tesla_run_feed.specs.Steps.{FeedsFiles, IsWeak, ReadsList, ReadsNoList, ReadsNoSound}
use Rattle.tesla_run_feed.proofs.Behind.{last_same}
use Rattle.tesla_run_feed.proofs.Fed.{touches_nothing}
use Rattle.tesla_run_feed.proofs.Listed.{each_counts, each_found, each_live, each_opens, each_pages, source_files}
use Rattle.tesla_run_send.specs.Sender.{LacksSeeds, ReadsNoStream, ReadsStream}
use Rattle.tesla_sender.specs.Made.{Stream}

both_files : (files others : List Opening) → AreFiles files → AreFiles others → AreFiles (files ++ others)
both_files [] others named more = more
both_files (file ∷ files) others named more = (named.0, both_files files others named.1 more)

status_named : (status : Option StatusArguments) (words : List (List ℕ)) → AreSpelled (status_parts status) words → AreFiles (status_files status)
status_named None words spelled = tt
status_named (Some status) words spelled = (spelled.first.0.file, tt)

-- none of the files is the console
are_files : (arguments : FeedArguments) (words : List (List ℕ)) → IsFeedForm arguments words → AreFiles (files_of_feed arguments)
are_files arguments words is =
    both_files (sources_of arguments) (live_files arguments) (source_files arguments.setups arguments.secrets is.spelled.rest.first.each is.spelled.rest.rest.first.each)
    (is.spelled.rest.rest.rest.first.0.file, both_files (map OfPost arguments.posts) (status_files arguments.status) (post_files arguments.posts is.spelled.rest.rest.rest.rest.first.each) (status_named arguments.status _ is.spelled.rest.rest.rest.rest.rest))

-- ---- what was found on the first of the pages

pages_both : (told : Told) (files others : List Opening) → pages_of (files_told told (files ++ others)) ≡ pages_of (files_told told files) ++ pages_of (files_told told others)
pages_both told [] others = refl
pages_both told (file ∷ files) others = ap (λ (ps : List Page). told.page (name_of file) ∷ ps) (pages_both told files others)

sound_more : (names : List (List ℕ)) (pages others : List Page) (streams : List Stream) → AreSoundIn names pages streams → AreSoundIn names (pages ++ others) streams
sound_more [] pages others [] sound = tt
sound_more [] pages others (stream ∷ streams) sound = absurd sound
sound_more (name ∷ names) [] others streams sound = absurd sound
sound_more (name ∷ names) (setup ∷ []) others streams sound = absurd sound
sound_more (name ∷ names) (setup ∷ secret ∷ pages) others [] sound = absurd sound
sound_more (name ∷ names) (setup ∷ secret ∷ pages) others (stream ∷ streams) (one, more) = (one, sound_more names pages others streams more)

lack_more : (names : List (List ℕ)) (pages others : List Page) (opened : ℕ) (outcome : OutcomeView) → LackSoundSeeds names pages opened outcome → LackSoundSeeds names (pages ++ others) opened outcome
lack_more [] pages others opened outcome lack = absurd lack
lack_more (name ∷ names) [] others opened outcome lack = absurd lack
lack_more (name ∷ names) (setup ∷ []) others opened outcome lack = absurd lack
lack_more (name ∷ names) (setup ∷ secret ∷ pages) others opened outcome (inl first) = inl first
lack_more (name ∷ names) (setup ∷ secret ∷ pages) others opened outcome (inr (stream, one, behind, is, more)) = inr (stream, one, behind, is, lack_more names pages others behind outcome more)

lacks_more : (names : List (List ℕ)) (pages others : List Page) (few opened : ℕ) (outcome : OutcomeView) → LacksList names pages few opened outcome → LacksList names (pages ++ others) few opened outcome
lacks_more names pages others few opened outcome (inl memory) = inl memory
lacks_more names pages others few opened outcome (inr (inl lack)) = inr (inl (lack_more names pages others opened outcome lack))
lacks_more names pages others few opened outcome (inr (inr none)) = inr (inr (record {
  streams = none.streams;
  found = sound_more names pages others none.streams none.found;
  none_behind = none.none_behind;
  fault = none.fault;
  fault_is = none.fault_is;
  outcome_is = none.outcome_is;
}))

-- there was no list of streams
pub performs_unfed : (over : Bool) (arguments : FeedArguments) (words : List (List ℕ)) (before now : Told) (outcome : OutcomeView) → IsFeedForm arguments words → ReadsNoList arguments.setups arguments.secrets outcome before now → Performs (feed over before.live now.live) arguments before now outcome
performs_unfed over arguments words before now outcome is none =
    let few = length (sources_of arguments) in
    let lacks : LacksList arguments.setups (pages_of (files_told before (files_of_feed arguments))) few none.opened outcome =
    subst (λ (ps : List Page). LacksList arguments.setups ps few none.opened outcome) (sym (pages_both before (sources_of arguments) (live_files arguments)))
    (lacks_more arguments.setups (pages_of (files_told before (sources_of arguments))) (pages_of (files_told before (live_files arguments))) few none.opened outcome none.why) in
    record {
      named = are_files arguments words is;
      opened = none.opened;
      opens = opens_prefix (sources_of arguments) (live_files arguments) none.opened before now none.few none.opens;
      does = (touches_nothing arguments.link arguments.posts before.live now.live none.live, inl (lacks, none.live));
      counts = causes_plain before.faults now.faults none.causes;
    }

-- it was read, and the link was fed to the posts, or nothing was
pub performs_fed : (over : Bool) (arguments : FeedArguments) (words : List (List ℕ)) (streams : List Stream) (before mid now : Told) (outcome : OutcomeView) → IsFeedForm arguments words → ReadsList arguments.setups arguments.secrets streams before mid → FeedsFiles over streams arguments mid now outcome → Performs (feed over before.live now.live) arguments before now outcome
performs_fed over arguments words streams before mid now outcome is read feeds =
    let pages = each_pages arguments.setups arguments.secrets streams before mid read.reads in
    let live = each_live arguments.setups arguments.secrets streams before mid read.reads in
    let many = length (sources_of arguments) + feeds.opened in
    let page : status_page arguments mid ≡ status_page arguments before = last_same (files_of_feed arguments) before mid pages in
    let does_first : FeedsStreams over arguments streams many before.live now.live (status_page arguments before) (status_page arguments now) outcome =
    subst (λ (l : Live). FeedsStreams over arguments streams many l now.live (status_page arguments before) (status_page arguments now) outcome) live
    (subst (λ (p : Page). FeedsStreams over arguments streams many mid.live now.live p (status_page arguments now) outcome) page feeds.does) in
    record {
      named = are_files arguments words is;
      opened = many;
      opens = opens_more (sources_of arguments) (live_files arguments) feeds.opened before mid now (each_opens arguments.setups arguments.secrets streams before mid read.reads) feeds.opens;
      does = (
        subst (λ (l : Live). TouchesLive arguments.link arguments.posts l now.live) live feeds.touches,
        inr (record { streams = streams; found = each_found arguments.setups arguments.secrets (live_files arguments) streams before mid read.reads; fits = read.fits; does = does_first }),
      );
      counts = causes_as before.faults now.faults (causes_then before.faults mid.faults now.faults (each_counts arguments.setups arguments.secrets streams before mid read.reads) feeds.counts)
          (λ hidden. (hidden.0, failed_back (sources_of arguments) (live_files arguments) now hidden.1)) (λ e. e) (λ e. e) (λ e. e) (λ e. e) (λ e. e) (λ e. e);
    }

-- ---- the seeds

-- the setup or the seeds were refused, or couldn't be read
pub reads_none : (setup secret : List ℕ) (outcome : OutcomeView) (old new : Told) → ReadsNoStream setup secret outcome old new → ReadsNoSound setup secret outcome old new
reads_none setup secret outcome old new none = record {
  opened = none.opened;
  few = none.few;
  opens = none.opens;
  live = none.live;
  why = lacks none.why;
  causes = none.causes;
} where
  lacks : LacksSeeds (file_told old setup) (file_told old secret) none.opened outcome → LacksSoundSeeds (old.page setup) (old.page secret) none.opened outcome
  lacks (inl alone) = inl (alone.alone, alone.why)
  lacks (inr at) = inr (inl at)

-- they were read, and one is weak
pub reads_weak : (setup secret : List ℕ) (stream : Stream) (outcome : OutcomeView) (old new : Told) → ReadsStream setup secret stream old new → IsWeak stream.seeds outcome → ReadsNoSound setup secret outcome old new
reads_weak setup secret stream outcome old new reads weak = record {
  opened = 2;
  few = omega arith;
  opens = reads.opens;
  live = reads.live;
  why = inr (inr (record { stream = stream; found = reads.is; few = omega arith; chain = weak.chain; kind = weak.kind; weak = weak.weak; outcome_is = weak.outcome_is }));
  causes = record {
    reads = cause_none old.faults.reads new.faults.reads (ap (λ (f : Faults). f.reads) reads.counts) (λ e. not_failed outcome faults.Read weak e);
    writes = cause_none old.faults.writes new.faults.writes (ap (λ (f : Faults). f.writes) reads.counts) (λ e. not_failed outcome faults.Write weak e);
    openings = cause_none old.faults.openings new.faults.openings (ap (λ (f : Faults). f.openings) reads.counts) (λ e. not_failed outcome faults.Open weak e);
  };
} where
  not_failed : (outcome : OutcomeView) (fault : Fault) → IsWeak stream.seeds outcome → outcome ≡ Failed fault → ⊥
  not_failed outcome fault weak e = let told = weak.outcome_is in cc
