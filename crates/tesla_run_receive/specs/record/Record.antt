-- What TAIL of record holds, beside what receive does.
use Rattle.std.specs.Prelude.{◌≡◌, ℕ, ◌-◌, true, false, List, [], length, Option, IfSome}
use Rattle.tesla_desk.specs.Live.{Live}
use Rattle.tesla_desk.specs.Outside.{Page, Untold, Absent, Holds}
use Rattle.tesla_front.specs.Command.{Command}
use Rattle.tesla_front.specs.Files.{IsPrefix}
use Rattle.tesla_fitting.specs.declared.verdict.Verdict.{Verdict}
use Rattle.tesla_receiver.specs.Entries.{Entry}
use Rattle.tesla_recorder.specs.Recorded.{last_entries}
use Rattle.tesla_state.specs.declared.replies.Reply.{Reply}
use Rattle.tesla_trace.specs.Trace.{tail_text}
use Rattle.tesla_turn.specs.Held.{Ended}
use Rattle.tesla_run_receive.specs.Output.{WithOutput, with_output}
use Rattle.tesla_run_receive.specs.Receive.{of_receiver}
use Rattle.tesla_run_receive.specs.record.Arguments.{IsRecord}

-- the spelling of the last entries of a history, at most so many: behind the number of the first of them
abbrev pub tail_of : ℕ → List Entry → List ℕ
tail_of keep history = tail_text (length history - keep) (last_entries keep history)

-- TAIL holds the last entries of the history, and where it failed a prefix
abbrev pub HoldsTail : ℕ → List Entry → Page → Type 0
HoldsTail keep history Untold = Unit {0}
HoldsTail keep history Absent = ⊥
HoldsTail keep history (Holds bytes false) = bytes ≡ tail_of keep history
HoldsTail keep history (Holds bytes true) = IsPrefix (tail_of keep history) bytes

-- the sink is TAIL under this name and has nothing yet, and as many entries are kept for it as are asked for
abbrev pub IsNewTail : ℕ → List ℕ → ℕ → Option (List ℕ) → ℕ → List ℕ → Type 0
IsNewTail keep name kept written faults named = (kept ≡ keep) × IfSome written (λ bytes. bytes ≡ []) × (faults ≡ 0) × (named ≡ name)

-- the form of receive with one output more: the output is TAIL
abbrev pub form_of_record : WithOutput Verdict Reply
form_of_record = record {
  kind = of_receiver;
  IsForm = IsRecord;
  Holds = λ arguments setup. HoldsTail arguments.number;
}

-- the command, told what the desk has of links and clocks before and afterwards, and the end of the turn where there was one: nothing was received, nor written to an output; or all was opened, a history was received, and TAIL has the last entries of it
abbrev pub recording : Live → Live → Option (Ended Entry) → Command
recording before now last = with_output form_of_record before now last
