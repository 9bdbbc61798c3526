-- A run of any command, from its steps.
use Rattle.std.proofs.Common.{◌≡◌, ◌∙◌, ℕ, Option, Some, None, Result, Ok, Err, List, refl, sym, ap, subst}
use Rattle.std.specs.Option.{option_map}
use Rattle.arrayvec.specs.ArrayString.{ArrayString}
use Rattle.tesla_desk.specs.Faults.{Faults, HasCausesBeside}
use Rattle.tesla_desk.specs.Outside.{Told}
use Rattle.tesla_desk.proofs.Counts.{causes_as, causes_plain, not_rose}
use Rattle.tesla_front.specs.OutcomeView.{OutcomeView, Usage, Failed, result_view, stop_view}
use Rattle.tesla_front.specs.Command.{Command, Performs, RunsAs}
use Rattle.tesla_front.specs.Refusal.{StopCauses}
use Rattle.tesla_front.specs.Run.{NothingFailed}
use Rattle.tesla_front.specs.declared.fault.Fault.{Fault}
use Rattle.tesla_front.specs.declared.fault.Fault.TheVariants as faults
use Rattle.tesla_front.specs.declared.refusal.Stop.{Stop}
use Rattle.tesla_front.specs.declared.refusal.Stop.TheVariants as stops

-- words that were read as those of a form were run as that form
pub runs_form : {A : Type 0} (command : Command) (read : A → command.Arguments) (words : List (List ℕ)) (result : Option A) (found : A) (old new : Told) (outcome : OutcomeView) → result ≡ Some found → ((arguments : command.Arguments) → command.IsForm arguments words → option_map read result ≡ Some arguments) → command.IsForm (read found) words → Performs command (read found) old new outcome → RunsAs command words old new outcome
runs_form command read words result found old new outcome is only spelled performs = record {
  form = λ arguments form.
      let same : Some (read found) ≡ Some arguments = sym (ap (option_map read) is) ∙ only arguments form in
      let one : read found ≡ arguments = cc in
      subst (λ (a : command.Arguments). Performs command a old new outcome) one performs;
  usage = λ none. absurd (none (read found) spelled);
}

-- words that were read as no form were told so, and nothing was done
pub runs_usage : {A : Type 0} (command : Command) (read : A → command.Arguments) (words : List (List ℕ)) (result : Option A) (desk : Told) → result ≡ None → ((arguments : command.Arguments) → command.IsForm arguments words → option_map read result ≡ Some arguments) → RunsAs command words desk desk Usage
runs_usage command read words result desk is only = record {
  form = λ arguments form. absurd (let no : None ≡ Some arguments = sym (ap (option_map read) is) ∙ only arguments form in cc);
  usage = λ none. (refl, refl);
}

fault_is : (result : Result ArrayString Stop) (fault : Fault) → result_view result ≡ Failed fault → result ≡ Err (stops.Failed fault)
fault_is (Ok lines) fault e = absurd cc
fault_is (Err (stops.Refused refusal)) fault e = absurd cc
fault_is (Err (stops.Failed other)) fault e = cc

-- each fault that a command came to raised its count, and no other count rose
pub counts_by : {hidden : Type 0} (result : Result ArrayString Stop) (old new : Faults) → StopCauses result old new → HasCausesBeside hidden old new (result_view result ≡ Failed faults.Read) (result_view result ≡ Failed faults.Write) (result_view result ≡ Failed faults.Open)
counts_by {hidden} result old new causes =
    causes_as {hidden = hidden} old new (causes_plain old new causes) (λ h. h)
    (fault_is result faults.Read) (λ e. ap result_view e) (fault_is result faults.Write) (λ e. ap result_view e) (fault_is result faults.Open) (λ e. ap result_view e)

stop_is : (stop : Stop) (fault : Fault) → stop_view stop ≡ Failed fault → stop ≡ stops.Failed fault
stop_is (stops.Refused refusal) fault e = absurd cc
stop_is (stops.Failed other) fault e = cc

-- each fault at which a command stopped raised its count, and no other count rose
pub counts_stopped : {hidden A : Type 0} (stop : Stop) (old new : Faults) → StopCauses {A = A} (Err stop) old new → HasCausesBeside hidden old new (stop_view stop ≡ Failed faults.Read) (stop_view stop ≡ Failed faults.Write) (stop_view stop ≡ Failed faults.Open)
counts_stopped {hidden} {A} stop old new causes =
    let back : (fault : Fault) → ◌≡◌ {A = Result A Stop} (Err stop) (Err (stops.Failed fault)) → stop_view stop ≡ Failed fault = λ fault e. let same : stop ≡ stops.Failed fault = cc in ap stop_view same in
    let there : (fault : Fault) → stop_view stop ≡ Failed fault → ◌≡◌ {A = Result A Stop} (Err stop) (Err (stops.Failed fault)) = λ fault e. ap (λ s. Err s) (stop_is stop fault e) in
    causes_as {hidden = hidden} old new (causes_plain old new causes) (λ h. h) (there faults.Read) (back faults.Read) (there faults.Write) (back faults.Write) (there faults.Open) (back faults.Open)

-- where nothing failed, the one fault is want of memory
pub memory_alone : {hidden : Type 0} (old new : Faults) (outcome : OutcomeView) (fault : Fault) → HasCausesBeside hidden old new (outcome ≡ Failed faults.Read) (outcome ≡ Failed faults.Write) (outcome ≡ Failed faults.Open) → NothingFailed old new → outcome ≡ Failed fault → outcome ≡ Failed faults.NoMemory
memory_alone old new outcome faults.Read causes none e = absurd (not_rose old.reads new.reads none.reads.0 none.reads.1 (causes.reads.rose e))
memory_alone old new outcome faults.Write causes none e = absurd (not_rose old.writes new.writes none.writes.0 none.writes.1 (causes.writes.rose e))
memory_alone old new outcome faults.NoMemory causes none e = e
memory_alone old new outcome faults.Open causes none e = absurd (not_rose old.openings new.openings none.openings.0 none.openings.1 (causes.openings.rose e))
