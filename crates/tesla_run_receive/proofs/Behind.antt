-- One output more behind the sinks, or none: its opening and its end.
use Rattle.std.proofs.Common.{◌≡◌, ◌∙◌, ◌⊎◌, inl, inr, ℕ, ◌+◌, ◌≤◌, nat_lt, Bool, true, false, Option, Some, None, List, [], ◌∷◌, ◌++◌, length, map, take, refl, sym, ap, subst, arith}
use Rattle.std.proofs.lemmas.Bool.Decides.{nat_tests}
use Rattle.std.proofs.lemmas.List.{length-append, take_all}
use Rattle.tesla_desk.specs.Faults.{CountsOpening, HasCause, HasCauses}
use Rattle.tesla_desk.specs.Outside.{Holds, MakesClock, OfSink, Opening, Page, Told, page_of}
use Rattle.tesla_desk.proofs.Counts.{cause_none, causes_sink, counts_stay}
use Rattle.tesla_front.specs.OutcomeView.{OutcomeView, Failed}
use Rattle.tesla_front.specs.Files.{HasFailed}
use Rattle.tesla_front.specs.Openings.{AnyFailed, AreFiles, IsAmong, Opens, files_told}
use Rattle.tesla_front.specs.Words.{IsName}
use Rattle.tesla_front.specs.declared.fault.Fault.{Fault}
use Rattle.tesla_front.specs.declared.fault.Fault.TheVariants as faults
use Rattle.tesla_front.proofs.Openings.{opens_first}
use Rattle.tesla_front.proofs.Reported.{rose_some}
use Rattle.tesla_session.specs.Wanted.{WantedSink, opening_for, sinks_wanted, wanted_for}
use Rattle.tesla_session.proofs.Counted.{has_failed, refused_counts}
use Rattle.tesla_session.proofs.Fresh.{refused_by}
use Rattle.tesla_session.proofs.Opened.{refused_opens, refused_pages}
use Rattle.tesla_run_receive.specs.Arguments.{AreOthers}
use Rattle.tesla_run_receive.specs.Output.{TellsFailed}
use Rattle.tesla_run_receive.specs.Running.{EndsBehind, OpensBehind, RefusesBehind, with_behind}
use Rattle.tesla_front.proofs.Behind.{among_back, among_prefix, are_files_more, failed_back, failed_prefix, opens_more, opens_prefix}
use Rattle.tesla_run_receive.proofs.Outputs.{among_opened, failed_still, none_wanted, sink_after, sinks_same}

-- the output is no other file of the words
abbrev pub IsApart : Option (List ℕ) → List (List ℕ) → Type 0
IsApart None sinks = Unit {0}
IsApart (Some output) sinks = IsName output × AreOthers output sinks

-- none of the files is the console
pub are_files_behind : (files : List Opening) (output : Option (List ℕ)) (sinks : List (List ℕ)) → AreFiles files → IsApart output sinks → AreFiles (with_behind files output)
are_files_behind files None sinks named apart = named
are_files_behind files (Some output) sinks named apart = are_files_more files output named apart.0.file

-- ---- the opening

-- what the making of a clock leaves as it was
record Stays (before now : Told) : Type 0 where
  pages : (name : List ℕ) → now.page name ≡ before.page name
  lefts : (name : List ℕ) → now.left name ≡ before.left name
  faults : now.faults ≡ before.faults
  openings : now.openings ≡ before.openings

made_stays : (before now : Told) → (now ≡ before) ⊎ MakesClock before now → Stays before now
made_stays before now (inl same) = subst (λ (t : Told). Stays before t) (sym same) (record { pages = λ name. refl; lefts = λ name. refl; faults = refl; openings = refl })
made_stays before now (inr made) = subst (λ (t : Told). Stays before t) (sym made.same) (record { pages = λ name. refl; lefts = λ name. refl; faults = refl; openings = refl })

-- a prefix of the other files was opened
pub prefix_opened : (files : List Opening) (output : Option (List ℕ)) (opened : ℕ) (before now : Told) → opened ≤ length files → Opens files opened before now → Opens (with_behind files output) opened before now
prefix_opened files None opened before now few opens = opens
prefix_opened files (Some output) opened before now few opens = opens_prefix files (OfSink output ∷ []) opened before now few opens

-- all were opened, and no count rose
pub all_opened : (files : List Opening) (output : Option (List ℕ)) (before mid now : Told) → Opens files (length files) before mid → OpensBehind output mid now
    → Opens (with_behind files output) (length (with_behind files output)) before now × (now.faults ≡ mid.faults)
all_opened files None before mid now first same = (subst (λ (t : Told). Opens files (length files) before t) (sym same) first, ap (λ (t : Told). t.faults) same)
all_opened files (Some output) before mid now first (opened, opens, made) =
    let behind : List Opening = OfSink output ∷ [] in
    let still = made_stays opened now made in (
      subst (λ (n : ℕ). Opens (files ++ behind) n before now) (sym (length-append files behind))
          (opens_more files behind 1 before mid now first
          (opens_first (OfSink output) [] mid now (still.openings ∙ opens.asked) (λ name none. still.pages name ∙ opens.pages name (λ same. none (inl (ap OfSink (sym same))))) (λ name none. still.lefts name ∙ opens.lefts name))),
      still.faults ∙ counts_stay mid.faults opened.faults opens.counts (λ e. absurd cc),
    )

-- the other files are among those that were opened
pub among_all : (opening : Opening) (files : List Opening) (output : Option (List ℕ)) → IsAmong opening files → IsAmong opening (take (length (with_behind files output)) (with_behind files output))
among_all opening files None among = subst (λ (os : List Opening). IsAmong opening os) (sym (take_all (length files) files (omega arith))) among
among_all opening files (Some output) among =
    let behind : List Opening = OfSink output ∷ [] in
    subst (λ (os : List Opening). IsAmong opening os) (sym (take_all (length (files ++ behind)) (files ++ behind) (omega arith))) (among_prefix opening files behind among)

-- behind the other files, which were all opened, an opening was refused
pub record RefusedBehind (files : List Opening) (output : Option (List ℕ)) (before mid tried : Told) (fault : Fault) : Type 0 where
  pub number : ℕ
  pub opens : Opens (with_behind files output) number before tried
  pub among : (opening : Opening) → IsAmong opening files → IsAmong opening (take number (with_behind files output))
  pub live : tried.live ≡ mid.live
  pub pages : (name : List ℕ) → tried.page name ≡ mid.page name
  pub counts : CountsOpening mid.faults tried.faults (fault ≡ faults.Open)
  pub why : (fault ≡ faults.Open) ⊎ (fault ≡ faults.NoMemory)

pub refused_behind : (files : List Opening) (output : Option (List ℕ)) (before mid tried : Told) (fault : Fault) → Opens files (length files) before mid → RefusesBehind output mid tried fault → RefusedBehind files output before mid tried fault
refused_behind files None before mid tried fault first refuses = absurd refuses
refused_behind files (Some output) before mid tried fault first refuses =
    let behind : List Opening = OfSink output ∷ [] in
    let some = refused_opens mid tried fault (WantedSink 0 output) refuses in record {
      number = length files + some.0;
      opens = opens_more files behind some.0 before mid tried first some.2;
      among = λ opening among. among_opened opening files behind some.0 among;
      live = refuses.1.live;
      pages = refused_pages mid tried fault (WantedSink 0 output) refuses;
      counts = refused_counts (WantedSink 0 output) mid tried fault refuses;
      why = refused_by (WantedSink 0 output) mid tried fault refuses;
    }

-- ---- the end

tells_by : (count : ℕ) (failed : Bool) (outcome : OutcomeView) (bytes : List ℕ) (test : Bool) → nat_lt 0 count ≡ test → HasCause 0 count (failed ≡ true) → (failed ≡ true → (outcome ≡ Failed faults.Read) ⊎ (outcome ≡ Failed faults.Write)) → TellsFailed (Holds bytes test) outcome
tells_by count failed outcome bytes false none cause told = tt
tells_by count true outcome bytes true some cause told = told refl
tells_by count false outcome bytes true some cause told = absurd (let none : count ≡ 0 = cause.still (λ e. absurd cc) in grind (arith, nat_tests, some, none))

tells_failed : (written : Option (List ℕ)) (count : ℕ) (failed : Bool) (outcome : OutcomeView) → HasCause 0 count (failed ≡ true) → (failed ≡ true → (outcome ≡ Failed faults.Read) ⊎ (outcome ≡ Failed faults.Write)) → TellsFailed (page_of written count) outcome
tells_failed None count failed outcome cause told = tt
tells_failed (Some bytes) count failed outcome cause told = tells_by count failed outcome bytes (nat_lt 0 count) refl cause told

-- what the page of the output holds
abbrev pub BehindHolds : (Page → Type 0) → Option (List ℕ) → Told → OutcomeView → Type 0
BehindHolds Holding None now outcome = Unit {0}
BehindHolds Holding (Some output) now outcome = Holding (now.page output) × TellsFailed (now.page output) outcome

-- what the end of the output leaves of the other files, and what is told of it
pub record Ends (Holding : Page → Type 0) (output : Option (List ℕ)) (links sinks : List (List ℕ)) (closed now : Told) (failed : Bool) (outcome : OutcomeView) : Type 0 where
  pub live : now.live ≡ closed.live
  pub sinks_same : files_told now (map opening_for (sinks_wanted 0 sinks)) ≡ files_told closed (map opening_for (sinks_wanted 0 sinks))
  pub own : HasCauses closed.faults now.faults ⊥ (failed ≡ true) ⊥
  pub own_failed : failed ≡ true → AnyFailed (with_behind (map opening_for (wanted_for links sinks)) output) now
  pub still_failed : AnyFailed (map opening_for (wanted_for links sinks)) closed → AnyFailed (with_behind (map opening_for (wanted_for links sinks)) output) now
  pub opens : (before : Told) → (let files = with_behind (map opening_for (wanted_for links sinks)) output in Opens files (length files) before closed → Opens files (length files) before now)
  pub holds : BehindHolds Holding output now outcome

pub ends_behind : (Holding : Page → Type 0) (output : Option (List ℕ)) (links sinks : List (List ℕ)) (closed now : Told) (failed : Bool) (outcome : OutcomeView)
    → IsApart output sinks → EndsBehind Holding output closed now failed → (failed ≡ true → (outcome ≡ Failed faults.Read) ⊎ (outcome ≡ Failed faults.Write)) → Ends Holding output links sinks closed now failed outcome
ends_behind Holding None links sinks closed now failed outcome apart (same, none) told =
    let files : List Opening = map opening_for (wanted_for links sinks) in
    let never : failed ≡ true → ⊥ = λ is. absurd (let clash : true ≡ false = sym is ∙ none in cc) in
    record {
      live = ap (λ (t : Told). t.live) same;
      sinks_same = ap (λ (t : Told). files_told t (map opening_for (sinks_wanted 0 sinks))) same;
      own = record {
        reads = cause_none closed.faults.reads now.faults.reads (ap (λ (t : Told). t.faults.reads) same) (λ e. e);
        writes = cause_none closed.faults.writes now.faults.writes (ap (λ (t : Told). t.faults.writes) same) never;
        openings = cause_none closed.faults.openings now.faults.openings (ap (λ (t : Told). t.faults.openings) same) (λ e. e);
      };
      own_failed = λ is. absurd (never is);
      still_failed = λ any. subst (λ (t : Told). AnyFailed files t) (sym same) any;
      opens = λ before opens. subst (λ (t : Told). Opens files (length files) before t) (sym same) opens;
      holds = tt;
    }
ends_behind Holding (Some output) links sinks closed now failed outcome apart it told =
    let files : List Opening = map opening_for (wanted_for links sinks) in
    let behind : List Opening = OfSink output ∷ [] in
    record {
      live = it.closes.live;
      sinks_same = sinks_same 0 output sinks closed now apart.1 it.closes.pages it.closes.lefts;
      own = causes_sink closed.faults now.faults it.faults it.closes.counts it.cause (λ e. e) (λ e. e) (λ e. e) (λ e. e);
      own_failed = λ is. failed_back files behind now (inl (subst (λ (page : Page). HasFailed page) (sym it.closes.own) (has_failed it.written it.faults (rose_some 0 it.faults refl (it.cause.rose is)))));
      still_failed = λ any. failed_prefix files behind now (failed_still files closed now
          (λ name among. it.closes.pages name (λ same. none_wanted 0 0 output links sinks apart.1 (subst (λ (n : List ℕ). IsAmong (OfSink n) files) same among))) it.closes.live any);
      opens = λ before opens. sink_after (files ++ behind) (length (files ++ behind)) output it.written it.faults before closed now opens
          (subst (λ (os : List Opening). IsAmong (OfSink output) os) (sym (take_all (length (files ++ behind)) (files ++ behind) (omega arith))) (among_back (OfSink output) files behind (inl refl))) it.closes;
      holds = (
        subst (λ (page : Page). Holding page) (sym it.closes.own) it.holds,
        subst (λ (page : Page). TellsFailed page outcome) (sym it.closes.own) (tells_failed it.written it.faults failed outcome it.cause told),
      );
    }
