-- Texts of at most 4,096 bytes, read up to a higher limit.
use Rattle.std.proofs.Common.{◌≡◌, ◌∙◌, inl, inr, ◌<◌, ◌≤◌, ℕ, Bool, true, false, Result, Ok, Err, IfOk, IfErr, List, length, take, nat_lt, refl, sym, ap, subst, arith}
use Rattle.std.proofs.lemmas.List.{take_all, length-take}
use Rattle.std.proofs.lemmas.Bool.Decides.{nat_tests}
use Rattle.tesla_commit.specs.Parsing.{judged}
use Rattle.tesla_seeds.specs.Judged.{seeds_judged}
use Rattle.tesla_desk.specs.Faults.{Faults}
use Rattle.tesla_desk.specs.Outside.{Page, Untold, Absent, Holds}
use Rattle.tesla_desk.proofs.Counts.{cause_none, causes_none}
use Rattle.tesla_front.specs.OutcomeView.{OutcomeView, Refused, Failed, stop_view}
use Rattle.tesla_front.specs.Fault.{Causes}
use Rattle.tesla_front.specs.Files.{HoldsWhere, IsRefusedIn, ReadsFile}
use Rattle.tesla_front.specs.Refusal.{StopCauses}
use Rattle.tesla_front.specs.Seeds.{IsSeedsText, IsNoSeedsText}
use Rattle.tesla_front.specs.Setup.{IsSetupText, IsNoSetupText}
use Rattle.tesla_front.specs.declared.fault.Fault.{Fault}
use Rattle.tesla_front.specs.declared.fault.Fault.TheVariants.{Read, Write, NoMemory, Open}
use Rattle.tesla_front.specs.declared.refusal.Stop.{Stop}
use Rattle.tesla_front.specs.declared.refusal.Stop.TheVariants as stops

-- ---- for any texts

-- what holds of the first bytes holds of the text
abbrev pub IsOfPrefix : {A : Type 0} → ℕ → (List ℕ → A → Type 0) → Type 0
IsOfPrefix {A} most Fact = (text : List ℕ) (x : A) → Fact (take most text) x → Fact text x

-- the one fault of a text is want of memory
abbrev pub WantsMemory : (List ℕ → OutcomeView → Type 0) → Type 0
WantsMemory Why = (text : List ℕ) (fault : Fault) → Why text (Failed fault) → fault ≡ NoMemory

-- what is read spells what the file spells
pub found_in : {A : Type 0} (Spells : List ℕ → A → Type 0) (most : ℕ) (page : Page) (read : List ℕ) (result : Result A Stop) → IsOfPrefix most Spells → ReadsFile most page read → IfOk result (Spells read) → IfOk result (λ x. HoldsWhere page (λ text. Spells text x))
found_in Spells most Untold read (Ok x) told prefix is = tt
found_in Spells most Absent read (Ok x) told prefix is = prefix
found_in {A} Spells most (Holds text failed) read (Ok x) told prefix is = told text x (subst (λ (r : List ℕ). Spells r x) prefix is)
found_in Spells most page read (Err stop) told prefix is = tt

refused_by : (Why : List ℕ → OutcomeView → Type 0) (most : ℕ) (page : Page) (read : List ℕ) (stop : Stop) → IsOfPrefix most Why → WantsMemory Why → ReadsFile most page read → Why read (stop_view stop) → IsRefusedIn page Why (stop_view stop)
refused_by Why most Untold read (stops.Refused refusal) told memory prefix is = tt
refused_by Why most Absent read (stops.Refused refusal) told memory prefix is = prefix
refused_by Why most (Holds text failed) read (stops.Refused refusal) told memory prefix is = told text (Refused refusal.status refusal.line.bytes) (subst (λ (r : List ℕ). Why r (Refused refusal.status refusal.line.bytes)) prefix is)
refused_by Why most page read (stops.Failed fault) told memory prefix is = λ e. let one : fault ≡ NoMemory = memory read fault is in cc

-- why what was read is refused is why the file is
pub refused_in : {A : Type 0} (Why : List ℕ → OutcomeView → Type 0) (most : ℕ) (page : Page) (read : List ℕ) (result : Result A Stop) → IsOfPrefix most Why → WantsMemory Why → ReadsFile most page read → IfErr result (λ stop. Why read (stop_view stop)) → IfErr result (λ stop. IsRefusedIn page Why (stop_view stop))
refused_in Why most page read (Ok x) told memory prefix is = tt
refused_in Why most page read (Err stop) told memory prefix is = refused_by Why most page read stop told memory prefix is

memory_alone : (Why : List ℕ → OutcomeView → Type 0) (read : List ℕ) (stop : Stop) (fault : Fault) → WantsMemory Why → Why read (stop_view stop) → stop ≡ stops.Failed fault → fault ≡ NoMemory
memory_alone Why read stop fault memory is e = memory read fault (subst (λ (s : Stop). Why read (stop_view s)) e is)

no_fault : {A : Type 0} (Why : List ℕ → OutcomeView → Type 0) (read : List ℕ) (result : Result A Stop) (fault : Fault) → WantsMemory Why → IfErr result (λ stop. Why read (stop_view stop)) → result ≡ Err (stops.Failed fault) → fault ≡ NoMemory
no_fault Why read (Ok x) fault memory is e = absurd cc
no_fault Why read (Err stop) fault memory is e = memory_alone Why read stop fault memory is cc

-- judging a text raises no count, and answers no fault but want of memory
pub text_causes : {A : Type 0} (Why : List ℕ → OutcomeView → Type 0) (read : List ℕ) (result : Result A Stop) (old new : Faults) → WantsMemory Why → new ≡ old → IfErr result (λ stop. Why read (stop_view stop)) → StopCauses result old new
text_causes Why read result old new memory same is = record {
  reads = cause_none old.reads new.reads (ap (λ (f : Faults). f.reads) same) (λ e. let one = no_fault Why read result Read memory is e in cc);
  writes = cause_none old.writes new.writes (ap (λ (f : Faults). f.writes) same) (λ e. let one = no_fault Why read result Write memory is e in cc);
  openings = cause_none old.openings new.openings (ap (λ (f : Faults). f.openings) same) (λ e. let one = no_fault Why read result Open memory is e in cc);
}

-- reading a file that came to its end raised no count
pub read_causes : {A : Type 0} (x : A) (old new : Faults) → Causes {A = A} (Ok x) old new → new ≡ old
read_causes x old new causes = causes_none old new causes (λ e. absurd cc) (λ e. absurd cc) (λ e. absurd cc)

-- ---- setups

judged_where : (n : ℕ) (text : List ℕ) (long : Bool) → nat_lt n (length text) ≡ long → 4096 < n → judged (take n text) ≡ judged text
unfolding judged
judged_where n text true e above =
    let past : n < length text = grind (arith, nat_tests) in
    let prefix : nat_lt 4096 (length (take n text)) ≡ true = grind (arith, nat_tests, length-take) in
    let whole : nat_lt 4096 (length text) ≡ true = grind (arith, nat_tests) in
    rw (prefix, whole) refl
judged_where n text false e above =
    let within : length text ≤ n = grind (arith, nat_tests) in
    rw (take_all n text within) refl

-- the first bytes of a text, more than 4,096 of them, tell what all of it tells
pub setup_of_prefix : (most : ℕ) → 4096 < most → IsOfPrefix most IsSetupText
setup_of_prefix most above text setup is = sym (judged_where most text (nat_lt most (length text)) refl above) ∙ is

pub no_setup_of_prefix : (most : ℕ) → 4096 < most → IsOfPrefix most IsNoSetupText
no_setup_of_prefix most above text outcome (inl why) = inl (why.0, sym (judged_where most text (nat_lt most (length text)) refl above) ∙ why.1, why.2)
no_setup_of_prefix most above text outcome (inr memory) = inr memory

pub setup_memory : WantsMemory IsNoSetupText
setup_memory text fault (inl why) = absurd (let no = why.2 in cc)
setup_memory text fault (inr memory) = cc

-- ---- seeds

seeds_where : (count n : ℕ) (text : List ℕ) (long : Bool) → nat_lt n (length text) ≡ long → 4096 < n → seeds_judged count (take n text) ≡ seeds_judged count text
unfolding seeds_judged
seeds_where count n text true e above =
    let past : n < length text = grind (arith, nat_tests) in
    let prefix : nat_lt 4096 (length (take n text)) ≡ true = grind (arith, nat_tests, length-take) in
    let whole : nat_lt 4096 (length text) ≡ true = grind (arith, nat_tests) in
    rw (prefix, whole) refl
seeds_where count n text false e above =
    let within : length text ≤ n = grind (arith, nat_tests) in
    rw (take_all n text within) refl

pub seeds_of_prefix : (count most : ℕ) → 4096 < most → IsOfPrefix most (IsSeedsText count)
seeds_of_prefix count most above text seeds is = sym (seeds_where count most text (nat_lt most (length text)) refl above) ∙ is

pub no_seeds_of_prefix : (count most : ℕ) → 4096 < most → IsOfPrefix most (IsNoSeedsText count)
no_seeds_of_prefix count most above text outcome (inl why) = inl (why.0, sym (seeds_where count most text (nat_lt most (length text)) refl above) ∙ why.1, why.2)
no_seeds_of_prefix count most above text outcome (inr memory) = inr memory

pub seeds_memory : (count : ℕ) → WantsMemory (IsNoSeedsText count)
seeds_memory count text fault (inl why) = absurd (let no = why.2 in cc)
seeds_memory count text fault (inr memory) = cc
