-- Which table of commands words are run by.
use Rattle.std.specs.Prelude.{ℕ, List}
use Rattle.tesla_desk.specs.Outside.{Told}
use Rattle.tesla_front.specs.OutcomeView.{OutcomeView}
use Rattle.tesla_front.specs.Run.{Runs}
use Rattle.tesla_cli.specs.Commands.{IsTool, RunsTool, command_of, usage}

-- a run of the words by the table of the tools where the first of them names one, and else by that of the other commands
pub record RunsChosen (words : List (List ℕ)) (old new : Told) (reported : OutcomeView) : Type 0 where
  pub tool : IsTool words → RunsTool words old new reported
  pub command : (IsTool words → ⊥) → Runs (command_of words) usage words old new reported
