-- What a command comes to: its status and its lines on the console.
use Rattle.std.specs.Prelude.{◌≡◌, ℕ, true, Result, Ok, Err, List}
use Rattle.arrayvec.specs.ArrayString.{ArrayString}
use Rattle.tesla_front.specs.Fault.{fault_status, fault_line, is_own_status}
use Rattle.tesla_front.specs.declared.fault.Fault.{Fault}
use Rattle.tesla_front.specs.declared.outcome.Outcome.{Outcome}
use Rattle.tesla_front.specs.declared.outcome.Outcome.TheVariants as outcomes
use Rattle.tesla_front.specs.declared.refusal.Stop.{Stop}
use Rattle.tesla_front.specs.declared.refusal.Stop.TheVariants as stops

pub data OutcomeView : Type 0 where
  -- the command came to its end, and prints these lines
  Done : List ℕ → OutcomeView
  -- the words are no form of a command
  Usage : OutcomeView
  -- an input is refused: the status that the program ends with, and the line that tells it
  Refused : ℕ → List ℕ → OutcomeView
  -- something went wrong outside
  Failed : Fault → OutcomeView

-- why a command stopped as what it came to
abbrev pub stop_view : Stop → OutcomeView
stop_view (stops.Refused refusal) = Refused refusal.status refusal.line.bytes
stop_view (stops.Failed fault) = Failed fault

-- what a command answers as what it came to
abbrev pub result_view : Result ArrayString Stop → OutcomeView
result_view (Ok lines) = Done lines.bytes
result_view (Err stop) = stop_view stop

-- an outcome as what was come to
abbrev pub outcome_view : Outcome → OutcomeView
outcome_view (outcomes.Done lines) = Done lines.bytes
outcome_view outcomes.Usage = Usage
outcome_view (outcomes.Refused refusal) = Refused refusal.status refusal.line.bytes
outcome_view (outcomes.Failed fault) = Failed fault

-- the status that the program ends with
abbrev pub status_of : OutcomeView → ℕ
status_of (Done lines) = 0
status_of Usage = 1
status_of (Refused status line) = status
status_of (Failed fault) = fault_status fault

-- a refusal has a status that no fault has
abbrev pub HasOwnStatus : OutcomeView → Type 0
HasOwnStatus (Refused status line) = is_own_status status ≡ true
HasOwnStatus _ = Unit {0}

-- all that is printed of it, told the usage lines
abbrev pub text_of : List ℕ → OutcomeView → List ℕ
text_of usage (Done lines) = lines
text_of usage Usage = usage
text_of usage (Refused status line) = line
text_of usage (Failed fault) = fault_line fault

-- the command came to its end
abbrev pub IsDone : OutcomeView → Type 0
IsDone (Done lines) = Unit {0}
IsDone _ = ⊥
