-- What replay comes to, and what OUT holds.
use Rattle.std.specs.Prelude.{ℕ, is_none, Option, Some, None, false, List, codes}
use Rattle.tesla_capture.specs.Capture.{capture}
use Rattle.tesla_capture.specs.Outline.{outline_of}
use Rattle.tesla_capture.specs.Taken.{HoldsNoRefusal}
use Rattle.tesla_capture.specs.declared.record.RecordKind.{RecordKind}
use Rattle.tesla_fitting.specs.declared.config.Config.{Config}
use Rattle.tesla_front.specs.OutcomeView.{OutcomeView}
use Rattle.tesla_front.specs.Command.{Command}
use Rattle.tesla_receiver.specs.Entries.{Entry}
use Rattle.tesla_receiver.specs.History.{arrivals_in}
use Rattle.tesla_replay.specs.Played.{played}
use Rattle.tesla_receiver.specs.Report.{report_of}
use Rattle.tesla_replay.specs.Records.{records_of, released_text}
use Rattle.tesla_convert.specs.Meaning.{Meaning}
use Rattle.tesla_run_replay.specs.Arguments.{limits_form}
use Rattle.tesla_run_replay.specs.ReportText.{report_text}
use Rattle.tesla_run_replay.specs.Under.{PlayedCommand, command_of, end_outcome}

-- the one history that a file plays: that of the records before its first refused place, and where there is none the end and takes up to the first that is over
abbrev pub history_of : Config → List ℕ → List Entry
history_of cfg bytes = played cfg (outline_of bytes).records (is_none (outline_of bytes).fault)

-- what playing a file comes to where nothing fails: the report of its history, or the refused place
abbrev pub end_of : Config → List ℕ → OutcomeView
end_of cfg bytes = end_outcome (outline_of bytes).fault (report_text (report_of (history_of cfg bytes)))

-- what is written: the records of all that is released in the history, or where a place is refused the records of its takes
abbrev pub text_by : Option (ℕ × RecordKind) → Config → List Entry → List ℕ
text_by None cfg history = released_text cfg (arrivals_in history)
text_by (Some fault) cfg history = records_of 0 history

abbrev pub out_text : Config → List ℕ → List ℕ
out_text cfg bytes = text_by (outline_of bytes).fault cfg (history_of cfg bytes)

-- what is written of the first bytes of a file, where a read fails behind them: the records of the takes in the history of their whole records, without an end
abbrev pub text_so_far : Config → List ℕ → List ℕ
text_so_far cfg read = records_of 0 (played cfg (outline_of read).records false)

-- all of that, as functions of the capture's bytes: memory is wanting before the capture is read or not at all
abbrev pub meaning : Config → Meaning
meaning cfg = record { comes = end_of cfg; makes = out_text cfg; so_far = text_so_far cfg; IsUnrefused = HoldsNoRefusal capture; MayWant = ⊥; IsWanting = λ bytes written. ⊥ }

-- the command: its words, and what a capture comes to under a setup
abbrev pub replayed : PlayedCommand
replayed = record { form = limits_form (codes "replay"); meaning = meaning }

abbrev pub replay : Command
replay = command_of replayed
