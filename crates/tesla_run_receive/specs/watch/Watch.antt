-- What STATUS of watch holds, beside what receive does.
use Rattle.std.specs.Prelude.{◌≡◌, ℕ, List, [], length, Option}
use Rattle.std.specs.List.{sum}
use Rattle.tesla_desk.specs.Live.{Live}
use Rattle.tesla_desk.specs.Outside.{Page}
use Rattle.tesla_front.specs.Command.{Command}
use Rattle.tesla_fitting.specs.declared.verdict.Verdict.{Verdict}
use Rattle.tesla_receiver.specs.Entries.{Entry}
use Rattle.tesla_receiver.specs.Report.{report_of}
use Rattle.tesla_recorder.specs.watched.Chains.{released_by_chain}
use Rattle.tesla_state.specs.declared.replies.Reply.{Reply}
use Rattle.tesla_turn.specs.Held.{Ended}
use Rattle.tesla_run_receive.specs.Output.{WithOutput, with_output}
use Rattle.tesla_run_receive.specs.Receive.{of_receiver}
use Rattle.tesla_run_receive.specs.watch.Arguments.{IsWatch}
use Rattle.tesla_run_receive.specs.watch.Lines.{Counted, chain_columns}
use Rattle.tesla_run_receive.specs.watch.Written.{HoldsLines}

-- the numbers of a whole history: those of its report, and for each of so many chains how many packets were released on it
abbrev pub counted_of : ℕ → List Entry → Counted
counted_of chains history = record { report = report_of history; chains = released_by_chain chains history; others = [] }

-- the packets by chain are together those that were given
abbrev pub AddUp : Counted → Type 0
AddUp counted = sum counted.chains ≡ counted.report.given

-- STATUS holds lines in which no count falls, with a count for each of so many chains, and the last has the numbers of the whole history. Where it failed it holds a prefix of such lines
abbrev pub HoldsStatus : ℕ → List Entry → Page → Type 0
HoldsStatus chains history page = HoldsLines (chain_columns chains) (counted_of chains history) page × AddUp (counted_of chains history)

-- the form of receive with STATUS behind its sinks, whose lines have a count for each chain of the setup
abbrev pub watched : WithOutput Verdict Reply
watched = record { kind = of_receiver; IsForm = IsWatch; Holds = λ arguments setup. HoldsStatus (length setup.rows) }

-- the command, told what the desk has of links and clocks before and afterwards, and the end of the turn where there was one
abbrev pub watching : Live → Live → Option (Ended Entry) → Command
watching before now last = with_output watched before now last
