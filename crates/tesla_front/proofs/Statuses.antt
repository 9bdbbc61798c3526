-- The status of a fault comes only where its count rose.
use Rattle.std.proofs.Common.{◌≡◌, ◌∙◌, ◌⊎◌, inl, inr, ◌-◌, ◌^◌, ◌<◌, ◌==◌, ℕ, Bool, true, false, nat_lt, if◌then◌else◌, List, refl, sym, ap, subst, arith}
use Rattle.std.proofs.lemmas.Bool.Decides.{nat_tests}
use Rattle.tesla_desk.specs.Faults.{Faults, HasCausesBeside, Rose, after_sink, no_faults, raised_where_failed}
use Rattle.tesla_desk.specs.Outside.{Page, Untold, Absent, Holds, Told}
use Rattle.tesla_desk.proofs.Counts.{not_rose, rose_where_some, rose_within, where_failed_stays}
use Rattle.tesla_front.specs.OutcomeView.{OutcomeView, Done, Usage, Refused, Failed, HasOwnStatus, outcome_view, status_of}
use Rattle.tesla_front.specs.Command.{Command}
use Rattle.tesla_front.specs.Console.{Shows}
use Rattle.tesla_front.specs.Fault.{IsUnfailed, fault_status, is_own_status}
use Rattle.tesla_front.specs.Printing.{HasPrinted, PrintingCommand, RunsPrinting, ShowsAfter}
use Rattle.tesla_front.specs.Run.{HasConsole, HasNoConsole, HasStatusCauses, Runs}
use Rattle.tesla_front.specs.declared.fault.Fault.{Fault}
use Rattle.tesla_front.specs.declared.fault.Fault.TheVariants as faults
use Rattle.tesla_front.specs.declared.outcome.Outcome.{Outcome}
use Rattle.tesla_front.specs.declared.outcome.Outcome.TheVariants as outcomes

-- ---- statuses

-- a refusal has a status of its own
pub own_status : (outcome : Outcome) → HasOwnStatus (outcome_view outcome)
own_status (outcomes.Done lines) = tt
own_status outcomes.Usage = tt
own_status (outcomes.Refused refusal) = refusal.own
own_status (outcomes.Failed fault) = tt

fault_at : ℕ → Fault
fault_at status = if status == 4 then faults.Read else if status == 5 then faults.Write else if status == 7 then faults.Open else faults.NoMemory

at_status : (fault : Fault) → fault_at (fault_status fault) ≡ fault
unfolding fault_at
at_status faults.Read = refl
at_status faults.Write = refl
at_status faults.NoMemory = refl
at_status faults.Open = refl

not_own : (fault : Fault) → is_own_status (fault_status fault) ≡ false
not_own faults.Read = refl
not_own faults.Write = refl
not_own faults.NoMemory = refl
not_own faults.Open = refl

none_own : (fault : Fault) (status : ℕ) → status ≡ fault_status fault → is_own_status status ≡ true → ⊥
none_own fault status e own = let no : false ≡ true = sym (not_own fault) ∙ ap is_own_status (sym e) ∙ own in cc

-- the status of a fault tells it
fault_reported : (reported : OutcomeView) (fault : Fault) → HasOwnStatus reported → status_of reported ≡ fault_status fault → reported ≡ Failed fault
fault_reported (Done lines) fault own e = absurd (none_own fault 0 e refl)
fault_reported Usage fault own e = absurd (none_own fault 1 e refl)
fault_reported (Refused status line) fault own e = absurd (none_own fault status e own)
fault_reported (Failed other) fault own e = ap (λ f. Failed f) (sym (at_status other) ∙ ap fault_at e ∙ at_status fault)

-- ---- counts

-- a fault is told only where its count rose
record ReportedCauses (reported : OutcomeView) (before now : Faults) : Type 0 where
  read : reported ≡ Failed faults.Read → Rose before.reads now.reads
  write : reported ≡ Failed faults.Write → Rose before.writes now.writes
  opening : reported ≡ Failed faults.Open → Rose before.openings now.openings

still_by : (before now : ℕ) → nat_lt before now ≡ false → nat_lt before (2 ^ 64 - 1) ≡ true → Rose before now → ⊥
still_by before now below full (inl less) = grind (arith, nat_tests, below, less)
still_by before now below full (inr most) = grind (arith, nat_tests, full, most)

rose_by : (a b : Bool) (before now : ℕ) → nat_lt before now ≡ a → nat_lt before (2 ^ 64 - 1) ≡ b → ((Rose before now → ⊥) → ⊥) → Rose before now
rose_by true b before now below full is = inl (grind (arith, nat_tests, below))
rose_by false false before now below full is = inr (grind (arith, nat_tests, full))
rose_by false true before now below full is = absurd (is (still_by before now below full))

-- that a count rose is so where it can't be otherwise
rose_indeed : (before now : ℕ) → ((Rose before now → ⊥) → ⊥) → Rose before now
rose_indeed before now is = rose_by (nat_lt before now) (nat_lt before (2 ^ 64 - 1)) before now refl refl is

-- what the console shows is what came, or a write to it failed
reported_is : (usage : List ℕ) (outcome reported : OutcomeView) (failed : ℕ) (page : Page) → Shows usage outcome reported failed page → (reported ≡ outcome) ⊎ ((reported ≡ Failed faults.Write) × (0 < failed))
reported_is usage outcome reported failed Untold (inl same) = inl same
reported_is usage outcome reported failed Untold (inr it) = inr (it.0, it.2)
reported_is usage outcome reported failed Absent none = absurd none
reported_is usage outcome reported failed (Holds text false) it = inl it.0
reported_is usage outcome reported failed (Holds text true) (inl it) = inl it.0
reported_is usage outcome reported failed (Holds text true) (inr it) = inr (it.0, it.2)

-- a fault of what came raised its count, or a write to the console failed
console_counts : {hidden : Type 0} (old before new : Faults) (outcome reported : OutcomeView) (failed : ℕ) → HasCausesBeside hidden old before (outcome ≡ Failed faults.Read) (outcome ≡ Failed faults.Write) (outcome ≡ Failed faults.Open) → new ≡ after_sink before failed
    → (reported ≡ outcome) ⊎ ((reported ≡ Failed faults.Write) × (0 < failed)) → ReportedCauses reported old new
console_counts old before new outcome reported failed counts closed (inl same) =
    let reads : new.reads ≡ before.reads = ap (λ (f : Faults). f.reads) closed in
    let writes : new.writes ≡ raised_where_failed failed before.writes = ap (λ (f : Faults). f.writes) closed in
    let openings : new.openings ≡ before.openings = ap (λ (f : Faults). f.openings) closed in
    let stays = where_failed_stays before.writes failed in
    record {
      read = λ e. subst (λ (n : ℕ). Rose old.reads n) (sym reads) (counts.reads.rose (sym same ∙ e));
      write = λ e. rose_within old.writes old.writes before.writes new.writes (omega arith) counts.writes.stays (omega (arith, writes, stays)) (counts.writes.rose (sym same ∙ e));
      opening = λ e. subst (λ (n : ℕ). Rose old.openings n) (sym openings) (counts.openings.rose (sym same ∙ e));
    }
console_counts old before new outcome reported failed counts closed (inr lost) =
    let writes : new.writes ≡ raised_where_failed failed before.writes = ap (λ (f : Faults). f.writes) closed in
    let stays = where_failed_stays before.writes failed in
    let rose : Rose before.writes new.writes = subst (λ (n : ℕ). Rose before.writes n) (sym writes) (rose_where_some before.writes failed (inl lost.1)) in
    record {
      read = λ e. absurd (let no : Failed faults.Write ≡ Failed faults.Read = sym lost.0 ∙ e in cc);
      write = λ _. rose_within old.writes before.writes new.writes new.writes counts.writes.stays (omega (arith, writes, stays)) (omega arith) rose;
      opening = λ e. absurd (let no : Failed faults.Write ≡ Failed faults.Open = sym lost.0 ∙ e in cc);
    }

-- words that are no form raised no count, and are told so
formed_causes : {A : Type 0} (reported : OutcomeView) (old new : Faults) → ((A → ⊥) → reported ≡ Usage) → (A → ReportedCauses reported old new) → ReportedCauses reported old new
formed_causes {A} reported old new usage done =
    let formed : (fault : Fault) → reported ≡ Failed fault → (A → ⊥) → ⊥ = λ fault e none. let no : Usage ≡ Failed fault = sym (usage none) ∙ e in cc in
    record {
      read = λ e. rose_indeed old.reads new.reads (λ none. formed faults.Read e (λ a. none ((done a).read e)));
      write = λ e. rose_indeed old.writes new.writes (λ none. formed faults.Write e (λ a. none ((done a).write e)));
      opening = λ e. rose_indeed old.openings new.openings (λ none. formed faults.Open e (λ a. none ((done a).opening e)));
    }

console_causes : (command : Command) (usage : List ℕ) (words : List (List ℕ)) (old new : Told) (reported : OutcomeView) → HasConsole command usage words old new reported → ReportedCauses reported old.faults new.faults
console_causes command usage words old new reported ran =
    formed_causes {A = (arguments : command.Arguments) × command.IsForm arguments words} reported old.faults new.faults
    (λ none. (ran.no_form (λ arguments form. none (arguments, form))).is_usage)
    (λ a. let it = ran.form a.0 a.1 in console_counts old.faults it.before_console new.faults it.outcome reported it.failed it.counts it.closed (reported_is usage it.outcome reported it.failed _ it.shows))

-- the same of a command that prints lines: what the console shows is what came, or a write to it failed
printed_is : (lines usage : List ℕ) (outcome reported : OutcomeView) (failed : ℕ) (page : Page) → ShowsAfter lines usage outcome reported failed page → (reported ≡ outcome) ⊎ ((reported ≡ Failed faults.Write) × (0 < failed))
printed_is lines usage outcome reported failed Untold (inl same) = inl same
printed_is lines usage outcome reported failed Untold (inr it) = inr (it.0, it.2)
printed_is lines usage outcome reported failed Absent none = absurd none
printed_is lines usage outcome reported failed (Holds text false) it = inl it.0
printed_is lines usage outcome reported failed (Holds text true) (some, inl it) = inl it.0
printed_is lines usage outcome reported failed (Holds text true) (some, inr (inl it)) = inl it.0
printed_is lines usage outcome reported failed (Holds text true) (some, inr (inr it)) = inr (it.0, some)

printed_causes : (command : PrintingCommand) (usage : List ℕ) (words : List (List ℕ)) (old new : Told) (reported : OutcomeView) → HasPrinted command usage words old new reported → ReportedCauses reported old.faults new.faults
printed_causes command usage words old new reported ran =
    formed_causes {A = (arguments : command.Arguments) × command.IsForm arguments words} reported old.faults new.faults
    (λ none. (ran.no_form (λ arguments form. none (arguments, form))).is_usage)
    (λ a. let it = ran.form a.0 a.1 in console_counts old.faults it.before_console new.faults it.outcome reported it.failed it.counts it.closed (printed_is it.lines usage it.outcome reported it.failed _ it.shows))

unopened_none : (reported : OutcomeView) (fault : Fault) → (reported ≡ Failed faults.Open) ⊎ (reported ≡ Failed faults.NoMemory) → reported ≡ Failed fault → (fault ≡ faults.Open → ⊥) → (fault ≡ faults.NoMemory → ⊥) → ⊥
unopened_none reported fault (inl is) e no_open no_memory = no_open (let same : Failed fault ≡ Failed faults.Open = sym e ∙ is in cc)
unopened_none reported fault (inr is) e no_open no_memory = no_memory (let same : Failed fault ≡ Failed faults.NoMemory = sym e ∙ is in cc)

no_console_causes : (old new : Told) (reported : OutcomeView) → HasNoConsole old new reported → ReportedCauses reported old.faults new.faults
no_console_causes old new reported none = record {
  read = λ e. absurd (unopened_none reported faults.Read none.fault e (λ no. cc) (λ no. cc));
  write = λ e. absurd (unopened_none reported faults.Write none.fault e (λ no. cc) (λ no. cc));
  opening = λ e. none.counts.openings.rose e;
}

reported_causes : (command : Command) (usage : List ℕ) (words : List (List ℕ)) (old new : Told) (reported : OutcomeView) → Runs command usage words old new reported → ReportedCauses reported old.faults new.faults
reported_causes command usage words old new reported (inl none) = no_console_causes old new reported none
reported_causes command usage words old new reported (inr ran) = console_causes command usage words old new reported ran

reported_printing : (command : PrintingCommand) (usage : List ℕ) (words : List (List ℕ)) (old new : Told) (reported : OutcomeView) → RunsPrinting command usage words old new reported → ReportedCauses reported old.faults new.faults
reported_printing command usage words old new reported (inl none) = no_console_causes old new reported none
reported_printing command usage words old new reported (inr ran) = printed_causes command usage words old new reported ran

-- ---- both

by_status : (reported : OutcomeView) (old new : Faults) → HasOwnStatus reported → ReportedCauses reported old new → HasStatusCauses (status_of reported) old new
by_status reported old new own causes = record {
  read = λ e. causes.read (fault_reported reported faults.Read own e);
  write = λ e. causes.write (fault_reported reported faults.Write own e);
  opening = λ e. causes.opening (fault_reported reported faults.Open own e);
}

-- the status of what a run came to is that of a fault only where its count rose
pub status_causes : (command : Command) (usage : List ℕ) (words : List (List ℕ)) (old new : Told) (reported : OutcomeView) → HasOwnStatus reported → Runs command usage words old new reported → HasStatusCauses (status_of reported) old.faults new.faults
status_causes command usage words old new reported own runs = by_status reported old.faults new.faults own (reported_causes command usage words old new reported runs)

-- so it is of a command that prints lines while it goes
pub printing_status_causes : (command : PrintingCommand) (usage : List ℕ) (words : List (List ℕ)) (old new : Told) (reported : OutcomeView) → HasOwnStatus reported → RunsPrinting command usage words old new reported → HasStatusCauses (status_of reported) old.faults new.faults
printing_status_causes command usage words old new reported own runs = by_status reported old.faults new.faults own (reported_printing command usage words old new reported runs)

-- and where no count can rise no such status comes
pub never_failed : (status : ℕ) → HasStatusCauses status no_faults no_faults → IsUnfailed status
never_failed status causes =
    (λ e. not_rose 0 0 refl (omega arith) (causes.read e), λ e. not_rose 0 0 refl (omega arith) (causes.write e), λ e. not_rose 0 0 refl (omega arith) (causes.opening e))
