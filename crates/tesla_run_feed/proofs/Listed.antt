-- The reading of a list of streams, from the reading of each setup with its seeds.
use Rattle.std.proofs.Common.{◌≡◌, ◌≢◌, ◌∙◌, inl, inr, codes, ℕ, suc, ◌+◌, ◌-◌, ◌≤◌, Option, Some, None, List, [], ◌∷◌, ◌++◌, drop, length, map, take, true, false, Bool, ◌<◌, refl, sym, ap, subst, arith, append_assoc, append-nil}
use Rattle.std.proofs.lemmas.List.{length-map}
use Rattle.std.proofs.Math.ListN.{get_or}
use Rattle.std.proofs.Math.Seq.{take-length}
use Rattle.std.specs.Prelude.{if◌then◌else◌, ◌==◌}
use denote.Ref.{Bor}
use Rattle.tesla_base.specs.declared.names.Key.{Key}
use Rattle.tesla_commit.specs.Parts.{Parts}
use Rattle.tesla_desk.specs.Faults.{Faults, HasCauses}
use Rattle.tesla_desk.specs.Outside.{OfSource, Opening, Page, Told}
use Rattle.tesla_desk.proofs.Counts.{cause_none}
use Rattle.tesla_feeds.specs.Order.{begins_early, disorder_at, disorder_from, same_number}
use Rattle.tesla_feeds.specs.declared.order.Disorder.{Disorder}
use Rattle.tesla_feeds.specs.declared.order.Disorder.TheVariants as disorders
use Rattle.tesla_front.specs.Names.{AreListNames}
use Rattle.tesla_front.specs.OutcomeView.{OutcomeView, Failed}
use Rattle.tesla_front.specs.Openings.{AreFiles, Opens, files_told, name_of}
use Rattle.tesla_front.specs.declared.fault.Fault.{Fault}
use Rattle.tesla_front.specs.declared.fault.Fault.TheVariants as faults
use Rattle.tesla_front.proofs.Openings.{opens_none}
use Rattle.tesla_run_feed.specs.Arguments.{FeedArguments, IsFeedForm, sources, sources_of}
use Rattle.tesla_run_feed.specs.Feeding.{AreSoundIn, LackSoundSeeds, pages_of}
use Rattle.tesla_run_feed.specs.Listing.{HaveSeeds, IsPlaced, IsRefusedList, fault_with, list_fault, list_refused, all_times, seeds_of, setup_of, streams_with, times_in}
use Rattle.tesla_run_feed.specs.Steps.{PutsEach, ReadsEach, ReadsList, ReadsNoList, ReadsNoSound, ReadsNotEach, ReadsSound}
use Rattle.tesla_run_feed.specs.declared.listing.ListFault.{ListFault}
use Rattle.tesla_run_feed.specs.declared.listing.ListFault.TheVariants as wrong
use Rattle.tesla_run_send.proofs.Sender.{opens_behind, opens_no_more}
use Rattle.tesla_sender.specs.Made.{Stream}

-- ---- the pages

-- those of these files are the same where that of each is
pub pages_same : (files : List Opening) (before now : Told) → ((name : List ℕ) → now.page name ≡ before.page name) → pages_of (files_told now files) ≡ pages_of (files_told before files)
pages_same [] before now same = refl
pages_same (file ∷ files) before now same =
    ap (λ (p : Page). p ∷ pages_of (files_told now files)) (same (name_of file)) ∙ ap (λ (ps : List Page). before.page (name_of file) ∷ ps) (pages_same files before now same)

-- the setups and the seeds are files
pub source_files : (setups secrets : List (List ℕ)) → AreListNames setups → AreListNames secrets → AreFiles (sources setups secrets)
source_files [] secrets named others = tt
source_files (setup ∷ setups) [] named others = tt
source_files (setup ∷ setups) (secret ∷ secrets) named others = (named.0.named.file, (others.0.named.file, source_files setups secrets named.1 others.1))

-- where only the console's page may differ
file_pages : (files : List Opening) (before now : Told) → AreFiles files → ((file : List ℕ) → file ≢ codes "-" → now.page file ≡ before.page file) → pages_of (files_told now files) ≡ pages_of (files_told before files)
file_pages [] before now named same = refl
file_pages (file ∷ files) before now named same =
    ap (λ (p : Page). p ∷ pages_of (files_told now files)) (same (name_of file) named.0) ∙ ap (λ (ps : List Page). before.page (name_of file) ∷ ps) (file_pages files before now named.1 same)

pub sources_same : (arguments : FeedArguments) (words : List (List ℕ)) (before now : Told) → IsFeedForm arguments words → ((file : List ℕ) → file ≢ codes "-" → now.page file ≡ before.page file)
    → pages_of (files_told now (sources_of arguments)) ≡ pages_of (files_told before (sources_of arguments))
sources_same arguments words before now is same =
    file_pages (sources_of arguments) before now (source_files arguments.setups arguments.secrets is.spelled.rest.first.each is.spelled.rest.rest.first.each) same

-- ---- all were read

pub each_pages : (setups secrets : List (List ℕ)) (streams : List Stream) (old new : Told) → ReadsEach setups secrets streams old new → (name : List ℕ) → new.page name ≡ old.page name
each_pages [] [] [] old new same name = ap (λ (t : Told). t.page name) same
each_pages [] [] (stream ∷ streams) old new reads name = absurd reads
each_pages [] (secret ∷ secrets) streams old new reads name = absurd reads
each_pages (setup ∷ setups) [] streams old new reads name = absurd reads
each_pages (setup ∷ setups) (secret ∷ secrets) [] old new reads name = absurd reads
each_pages (setup ∷ setups) (secret ∷ secrets) (stream ∷ streams) old new (mid, first, more) name = each_pages setups secrets streams mid new more name ∙ first.reads.pages name

pub each_live : (setups secrets : List (List ℕ)) (streams : List Stream) (old new : Told) → ReadsEach setups secrets streams old new → new.live ≡ old.live
each_live [] [] [] old new same = ap (λ (t : Told). t.live) same
each_live [] [] (stream ∷ streams) old new reads = absurd reads
each_live [] (secret ∷ secrets) streams old new reads = absurd reads
each_live (setup ∷ setups) [] streams old new reads = absurd reads
each_live (setup ∷ setups) (secret ∷ secrets) [] old new reads = absurd reads
each_live (setup ∷ setups) (secret ∷ secrets) (stream ∷ streams) old new (mid, first, more) = each_live setups secrets streams mid new more ∙ first.reads.live

pub each_counts : (setups secrets : List (List ℕ)) (streams : List Stream) (old new : Told) → ReadsEach setups secrets streams old new → new.faults ≡ old.faults
each_counts [] [] [] old new same = ap (λ (t : Told). t.faults) same
each_counts [] [] (stream ∷ streams) old new reads = absurd reads
each_counts [] (secret ∷ secrets) streams old new reads = absurd reads
each_counts (setup ∷ setups) [] streams old new reads = absurd reads
each_counts (setup ∷ setups) (secret ∷ secrets) [] old new reads = absurd reads
each_counts (setup ∷ setups) (secret ∷ secrets) (stream ∷ streams) old new (mid, first, more) = each_counts setups secrets streams mid new more ∙ first.reads.counts

pub each_opens : (setups secrets : List (List ℕ)) (streams : List Stream) (old new : Told) → ReadsEach setups secrets streams old new → Opens (sources setups secrets) (length (sources setups secrets)) old new
each_opens [] [] [] old new same = opens_none [] old new (ap (λ (t : Told). t.openings) same) (λ name. ap (λ (t : Told). t.page name) same) (λ name. ap (λ (t : Told). t.left name) same)
each_opens [] [] (stream ∷ streams) old new reads = absurd reads
each_opens [] (secret ∷ secrets) streams old new reads = absurd reads
each_opens (setup ∷ setups) [] streams old new reads = absurd reads
each_opens (setup ∷ setups) (secret ∷ secrets) [] old new reads = absurd reads
each_opens (setup ∷ setups) (secret ∷ secrets) (stream ∷ streams) old new (mid, first, more) =
    opens_behind setup secret (sources setups secrets) (length (sources setups secrets)) old mid new first.reads.opens first.reads.pages (each_opens setups secrets streams mid new more)

-- the streams stand on the first of these pages
pub each_found : (setups secrets : List (List ℕ)) (others : List Opening) (streams : List Stream) (old new : Told) → ReadsEach setups secrets streams old new → AreSoundIn setups (pages_of (files_told old (sources setups secrets ++ others))) streams
each_found [] [] others [] old new same = tt
each_found [] [] others (stream ∷ streams) old new reads = absurd reads
each_found [] (secret ∷ secrets) others streams old new reads = absurd reads
each_found (setup ∷ setups) [] others streams old new reads = absurd reads
each_found (setup ∷ setups) (secret ∷ secrets) others [] old new reads = absurd reads
each_found (setup ∷ setups) (secret ∷ secrets) others (stream ∷ streams) old new (mid, first, more) =
    ((first.reads.is, first.sound), subst (λ (ps : List Page). AreSoundIn setups ps streams) (pages_same (sources setups secrets ++ others) old mid first.reads.pages) (each_found setups secrets others streams mid new more))

pub each_size : (setups secrets : List (List ℕ)) (streams : List Stream) (old new : Told) → ReadsEach setups secrets streams old new → length streams ≡ length setups
each_size [] [] [] old new same = refl
each_size [] [] (stream ∷ streams) old new reads = absurd reads
each_size [] (secret ∷ secrets) streams old new reads = absurd reads
each_size (setup ∷ setups) [] streams old new reads = absurd reads
each_size (setup ∷ setups) (secret ∷ secrets) [] old new reads = absurd reads
each_size (setup ∷ setups) (secret ∷ secrets) (stream ∷ streams) old new (mid, first, more) = ap suc (each_size setups secrets streams mid new more)

pub each_seeds : (setups secrets : List (List ℕ)) (streams : List Stream) (old new : Told) → ReadsEach setups secrets streams old new → HaveSeeds streams
each_seeds [] [] [] old new same = tt
each_seeds [] [] (stream ∷ streams) old new reads = absurd reads
each_seeds [] (secret ∷ secrets) streams old new reads = absurd reads
each_seeds (setup ∷ setups) [] streams old new reads = absurd reads
each_seeds (setup ∷ setups) (secret ∷ secrets) [] old new reads = absurd reads
each_seeds (setup ∷ setups) (secret ∷ secrets) (stream ∷ streams) old new (mid, first, more) = (first.reads.is.count, each_seeds setups secrets streams mid new more)

-- ---- not all were read

-- what is known of that
record NotEach (setups secrets : List (List ℕ)) (outcome : OutcomeView) (old new : Told) : Type 0 where
  pub opened : ℕ
  pub opens : Opens (sources setups secrets) opened old new
  pub few : opened ≤ length (sources setups secrets)
  pub live : new.live ≡ old.live
  pub why : LackSoundSeeds setups (pages_of (files_told old (sources setups secrets))) opened outcome
  pub causes : HasCauses old.faults new.faults (outcome ≡ Failed faults.Read) (outcome ≡ Failed faults.Write) (outcome ≡ Failed faults.Open)

not_first : (setup secret : List ℕ) (setups secrets : List (List ℕ)) (outcome : OutcomeView) (old new : Told) → ReadsNoSound setup secret outcome old new → NotEach (setup ∷ setups) (secret ∷ secrets) outcome old new
not_first setup secret setups secrets outcome old new none = record {
  opened = none.opened;
  opens = opens_no_more (OfSource setup) (OfSource secret) (sources setups secrets) none.opened old new none.few none.opens;
  few = omega (arith, none.few);
  live = none.live;
  why = inl none.why;
  causes = none.causes;
}

not_each : (setups secrets : List (List ℕ)) (outcome : OutcomeView) (old new : Told) → ReadsNotEach setups secrets outcome old new → NotEach setups secrets outcome old new
not_each [] secrets outcome old new reads = absurd reads
not_each (setup ∷ setups) [] outcome old new reads = absurd reads
not_each (setup ∷ setups) (secret ∷ secrets) outcome old new (inl none) = not_first setup secret setups secrets outcome old new none
not_each (setup ∷ setups) (secret ∷ secrets) outcome old new (inr (stream, mid, first, more)) =
    let later = not_each setups secrets outcome mid new more in
    record {
      opened = suc (suc later.opened);
      opens = opens_behind setup secret (sources setups secrets) later.opened old mid new first.reads.opens first.reads.pages later.opens;
      few = omega (arith, later.few);
      live = later.live ∙ first.reads.live;
      why = inr (
        stream,
        (first.reads.is, first.sound),
        later.opened,
        refl,
        subst (λ (ps : List Page). LackSoundSeeds setups ps later.opened outcome) (pages_same (sources setups secrets) old mid first.reads.pages) later.why,
      );
      causes = subst (λ (f : Faults). HasCauses f new.faults (outcome ≡ Failed faults.Read) (outcome ≡ Failed faults.Write) (outcome ≡ Failed faults.Open)) first.reads.counts later.causes;
    }

pub no_list : (setups secrets : List (List ℕ)) (outcome : OutcomeView) (old new : Told) → ReadsNotEach setups secrets outcome old new → ReadsNoList setups secrets outcome old new
no_list setups secrets outcome old new reads =
    let not = not_each setups secrets outcome old new reads in
    record { opened = not.opened; opens = not.opens; few = not.few; live = not.live; why = inr (inl not.why); causes = not.causes }

-- ---- there was no memory

pub roomless_list : (setups secrets : List (List ℕ)) (told : Told) → ReadsNoList setups secrets (Failed faults.NoMemory) told told
roomless_list setups secrets told = record {
  opened = 0;
  opens = opens_none (sources setups secrets) told told refl (λ name. refl) (λ name. refl);
  few = omega arith;
  live = refl;
  why = inl (refl, refl);
  causes = record {
    reads = cause_none told.faults.reads told.faults.reads refl (λ e. absurd cc);
    writes = cause_none told.faults.writes told.faults.writes refl (λ e. absurd cc);
    openings = cause_none told.faults.openings told.faults.openings refl (λ e. absurd cc);
  };
}

-- ---- streams of setups and seeds

pub setups_with : (setups : List Parts) (seeds : List (List Key)) → length seeds ≡ length setups → map setup_of (streams_with setups seeds) ≡ setups
setups_with [] seeds same = refl
setups_with (setup ∷ setups) [] same = absurd (omega (arith, same))
setups_with (setup ∷ setups) (keys ∷ seeds) same =
    let rest : length seeds ≡ length setups = omega (arith, same) in
    ap (λ (all : List Parts). setup ∷ all) (setups_with setups seeds rest)

pub seeds_with : (setups : List Parts) (seeds : List (List Key)) → length seeds ≡ length setups → map seeds_of (streams_with setups seeds) ≡ seeds
seeds_with [] [] same = refl
seeds_with [] (keys ∷ seeds) same = absurd (omega (arith, same))
seeds_with (setup ∷ setups) [] same = absurd (omega (arith, same))
seeds_with (setup ∷ setups) (keys ∷ seeds) same =
    let rest : length seeds ≡ length setups = omega (arith, same) in
    ap (λ (all : List (List Key)). keys ∷ all) (seeds_with setups seeds rest)

-- there are as many intervals as setups
pub times_size : (setups : List Parts) (seeds : List (List Key)) → length seeds ≡ length setups → length (all_times (streams_with setups seeds)) ≡ length setups
times_size setups seeds same = ap (λ (ps : List Parts). length (map times_in ps)) (setups_with setups seeds same) ∙ length-map setups times_in

-- one setup and its seeds more
pub with_more : (setups : List Parts) (seeds : List (List Key)) (setup : Parts) (keys : List Key) → length seeds ≡ length setups
    → streams_with (setups ++ setup ∷ []) (seeds ++ keys ∷ []) ≡ streams_with setups seeds ++ record { setup = setup; seeds = keys } ∷ []
with_more [] [] setup keys same = refl
with_more [] (first ∷ seeds) setup keys same = absurd (omega (arith, same))
with_more (first ∷ setups) [] setup keys same = absurd (omega (arith, same))
with_more (first ∷ setups) (own ∷ seeds) setup keys same =
    let rest : length seeds ≡ length setups = omega (arith, same) in
    ap (λ (all : List Stream). record { setup = first; seeds = own } ∷ all) (with_more setups seeds setup keys rest)

-- what is wrong with them
pub fault_same : (setups : List Parts) (seeds : List (List Key)) → length seeds ≡ length setups → list_fault (streams_with setups seeds) ≡ fault_with setups seeds
fault_same setups seeds same =
    ap (λ (ps : List Parts). fault_with ps (map seeds_of (streams_with setups seeds))) (setups_with setups seeds same)
    ∙ ap (λ (ks : List (List Key)). fault_with setups ks) (seeds_with setups seeds same)

-- ---- what was put is what was read

pub put_none : (first : List Stream) (told : Told) → PutsEach [] [] first first told told
put_none first told = record { streams = []; is = sym (append-nil first); reads = refl }

put_first : (setup secret : List ℕ) (setups secrets : List (List ℕ)) (stream : Stream) (first own now : List Stream) (old mid new : Told) → own ≡ first ++ stream ∷ [] → ReadsSound setup secret stream old mid
    → PutsEach setups secrets own now mid new → PutsEach (setup ∷ setups) (secret ∷ secrets) first now old new
put_first setup secret setups secrets stream first own now old mid new own_is read puts = record {
  streams = stream ∷ puts.streams;
  is = puts.is ∙ ap (λ (all : List Stream). all ++ puts.streams) own_is ∙ append_assoc first (stream ∷ []) puts.streams;
  reads = (mid, read, puts.reads);
}

-- the names in words
abbrev words_of : List (Bor (List ℕ)) → List (List ℕ)
words_of names = map (λ (name : Bor (List ℕ)). name.now) names

behind_first : (name : Bor (List ℕ)) (names : List (Bor (List ℕ))) → take (length (name ∷ names) - 1) names ≡ names
behind_first name names = let size : length (name ∷ names) - 1 ≡ length names = omega arith in ap (λ (n : ℕ). take n names) size ∙ take-length names

pub put_on : (setups secrets : List (Bor (List ℕ))) (d e : Bor (List ℕ)) (stream : Stream) (first own now : List Stream) (old mid new : Told) → 1 ≤ length setups → 1 ≤ length secrets → own ≡ first ++ stream ∷ []
    → ReadsSound (get_or setups 0 d).now (get_or secrets 0 e).now stream old mid → PutsEach (words_of (take (length setups - 1) (drop 1 setups))) (words_of (take (length secrets - 1) (drop 1 secrets))) own now mid new
    → PutsEach (words_of setups) (words_of secrets) first now old new
put_on [] secrets d e stream first own now old mid new some others own_is read puts = absurd (omega (arith, some))
put_on (setup ∷ setups) [] d e stream first own now old mid new some others own_is read puts = absurd (omega (arith, others))
put_on (setup ∷ setups) (secret ∷ secrets) d e stream first own now old mid new some others own_is read puts =
    put_first setup.now secret.now (words_of setups) (words_of secrets) stream first own now old mid new own_is read
    (subst (λ (names : List (Bor (List ℕ))). PutsEach (words_of names) (words_of secrets) own now mid new) (behind_first setup setups)
    (subst (λ (names : List (Bor (List ℕ))). PutsEach (words_of (take (length (setup ∷ setups) - 1) setups)) (words_of names) own now mid new) (behind_first secret secrets) puts))

-- the same of equal names, behind nothing
pub put_as : (setups own secrets words : List (List ℕ)) (first now : List Stream) (old new : Told) → own ≡ setups → words ≡ secrets → first ≡ [] → PutsEach own words first now old new → PutsEach setups secrets [] now old new
put_as setups own secrets words first now old new setups_are secrets_are none puts =
    subst (λ (ss : List (List ℕ)). PutsEach ss secrets [] now old new) setups_are
    (subst (λ (ss : List (List ℕ)). PutsEach own ss [] now old new) secrets_are
    (subst (λ (all : List Stream). PutsEach own words all now old new) none puts))

pub not_as : (setups own secrets words : List (List ℕ)) (outcome : OutcomeView) (old new : Told) → own ≡ setups → words ≡ secrets → ReadsNotEach own words outcome old new → ReadsNotEach setups secrets outcome old new
not_as setups own secrets words outcome old new setups_are secrets_are reads =
    subst (λ (ss : List (List ℕ)). ReadsNotEach ss secrets outcome old new) setups_are
    (subst (λ (ss : List (List ℕ)). ReadsNotEach own ss outcome old new) secrets_are reads)

-- ---- the list was judged

pub listed : (setups secrets : List (List ℕ)) (parts : List Parts) (seeds : List (List Key)) (old new : Told) → length seeds ≡ length parts → PutsEach setups secrets [] (streams_with parts seeds) old new → fault_with parts seeds ≡ None → ReadsList setups secrets (streams_with parts seeds) old new
listed setups secrets parts seeds old new same puts fits = record {
  reads = subst (λ (all : List Stream). ReadsEach setups secrets all old new) (sym puts.is) puts.reads;
  fits = fault_same parts seeds same ∙ fits;
}

not_failed : (found : ListFault) (fault : Fault) → list_refused found ≡ Failed fault → ⊥
not_failed (wrong.Overlap place) fault e = absurd cc
not_failed (wrong.UsedStream place) fault e = absurd cc
not_failed (wrong.NoWindow place) fault e = absurd cc
not_failed (wrong.EqualSeeds place) fault e = absurd cc

pub unlisted : (setups secrets : List (List ℕ)) (parts : List Parts) (seeds : List (List Key)) (outcome : OutcomeView) (old new : Told) → length seeds ≡ length parts → PutsEach setups secrets [] (streams_with parts seeds) old new → IsRefusedList parts seeds outcome → ReadsNoList setups secrets outcome old new
unlisted setups secrets parts seeds outcome old new same puts (fault, is, outcome_is) =
    let reads : ReadsEach setups secrets (streams_with parts seeds) old new = subst (λ (all : List Stream). ReadsEach setups secrets all old new) (sym puts.is) puts.reads in
    let counts = each_counts setups secrets (streams_with parts seeds) old new reads in
    let found = each_found setups secrets [] (streams_with parts seeds) old new reads in
    record {
      opened = length (sources setups secrets);
      opens = each_opens setups secrets (streams_with parts seeds) old new reads;
      few = omega arith;
      live = each_live setups secrets (streams_with parts seeds) old new reads;
      why = inr (inr (record {
        streams = streams_with parts seeds;
        found = subst (λ (files : List Opening). AreSoundIn setups (pages_of (files_told old files)) (streams_with parts seeds)) (append-nil (sources setups secrets)) found;
        none_behind = omega arith;
        fault = fault;
        fault_is = fault_same parts seeds same ∙ is;
        outcome_is = outcome_is;
      }));
      causes = record {
        reads = cause_none old.faults.reads new.faults.reads (ap (λ (f : Faults). f.reads) counts) (λ e. not_failed fault faults.Read (sym outcome_is ∙ e));
        writes = cause_none old.faults.writes new.faults.writes (ap (λ (f : Faults). f.writes) counts) (λ e. not_failed fault faults.Write (sym outcome_is ∙ e));
        openings = cause_none old.faults.openings new.faults.openings (ap (λ (f : Faults). f.openings) counts) (λ e. not_failed fault faults.Open (sym outcome_is ∙ e));
      };
    }

-- ---- places

same_by : (place other : ℕ) (is : Bool) (behind : Option ℕ) → place ≤ 16 → (behind ≡ Some other → other ≤ 16) → (if is then Some place else behind) ≡ Some other → other ≤ 16
same_by place other true behind few rest e = let at : place ≡ other = cc in omega (arith, at, few)
same_by place other false behind few rest e = rest e

same_placed : (number place : ℕ) (setups : List Parts) (other : ℕ) → place + length setups ≤ 16 → same_number number place setups ≡ Some other → other ≤ 16
same_placed number place [] other few e = absurd cc
same_placed number place (setup ∷ setups) other few e =
    same_by place other (setup.stream.0 == number) (same_number number (place + 1) setups) (omega (arith, few))
    (λ found. same_placed number (place + 1) setups other (omega (arith, few)) found) e

placed_by : (place : ℕ) (disorder : Disorder) (early : Bool) (same : Option ℕ) (behind : Option Disorder) → place < 16 → ((other : ℕ) → same ≡ Some other → other ≤ 16) → (behind ≡ Some disorder → IsPlaced disorder)
    → disorder_at place early same behind ≡ Some disorder → IsPlaced disorder
placed_by place disorder true same behind few placed rest e =
    let own : disorders.Overlap place ≡ disorder = cc in
    subst IsPlaced own few
placed_by place disorder false (Some other) behind few placed rest e =
    let own : disorders.SameStream place other ≡ disorder = cc in
    subst IsPlaced own (placed other refl)
placed_by place disorder false None behind few placed rest e = rest e

-- the streams of a disorder are at places of the list
pub disorder_placed : (place : ℕ) (setups : List Parts) (disorder : Disorder) → place + length setups ≤ 16 → disorder_from place setups ≡ Some disorder → IsPlaced disorder
disorder_placed place [] disorder few e = absurd cc
disorder_placed place (setup ∷ setups) disorder few e =
    placed_by place disorder (begins_early setup setups) (same_number setup.stream.0 (place + 1) setups) (disorder_from (place + 1) setups) (omega (arith, few))
    (λ other is. same_placed setup.stream.0 (place + 1) setups other (omega (arith, few)) is)
    (λ found. disorder_placed (place + 1) setups disorder (omega (arith, few)) found) e
