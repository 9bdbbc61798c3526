-- Which words are roll, and its files in order.
use Rattle.std.specs.Prelude.{ℕ, List, codes}
use Rattle.tesla_run_replay.specs.Arguments.{IsPlayed, PlayedArguments, PlayedForm}
use Rattle.tesla_run_replay.specs.declared.arguments.Capacity.TheVariants as capacities

-- the names of the files, the lag, and how many packets each epoch holds at most, which one interval may fill
abbrev pub RollArguments : Type 0
RollArguments = PlayedArguments

-- the words are the form 'roll SETUP LAG CAPACITY CAPTURE OUT'
abbrev pub roll_form : PlayedForm
roll_form = record { name = codes "roll"; capacity = capacities.Whole 4096 }

abbrev pub IsRoll : RollArguments → List (List ℕ) → Type 0
IsRoll = IsPlayed roll_form
