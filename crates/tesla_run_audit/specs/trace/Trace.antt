-- Which words are trace, what it comes to, and what TRACE holds.
use Rattle.std.specs.Prelude.{ℕ, List, codes}
use Rattle.tesla_fitting.specs.declared.config.Config.{Config}
use Rattle.tesla_front.specs.Command.{Command}
use Rattle.tesla_replay.specs.Played.{played}
use Rattle.tesla_convert.specs.Meaning.{Meaning}
use Rattle.tesla_trace.specs.Trace.{entry_text, trace_head, trace_text}
use Rattle.tesla_run_replay.specs.Arguments.{IsPlayed, PlayedArguments, limits_form}
use Rattle.tesla_run_replay.specs.Playing.{EventRule, meaning_of, receiver_by, history_report, rule_by}
use Rattle.tesla_run_replay.specs.Under.{PlayedCommand, command_of}

-- the words are the form 'trace SETUP LAG CAPACITY CAPTURE TRACE'
abbrev pub IsTraceForm : PlayedArguments → List (List ℕ) → Type 0
IsTraceForm = IsPlayed (limits_form (codes "trace"))

-- what a capture comes to, as functions of its bytes: the report or the refused place is told, as replay tells it, and the trace of the history that it plays is written, of one ingest; memory is wanting before the capture is read or not at all
abbrev pub meaning : Config → Meaning
meaning cfg = meaning_of (played cfg) history_report (trace_text 1)

-- the command: its words, and what a capture comes to under a setup
abbrev pub traced : PlayedCommand
traced = record { form = limits_form (codes "trace"); meaning = meaning }

abbrev pub trace : Command
trace = command_of traced

-- what is written of each event, the head of a trace of one ingest and the spelling of each entry, and told of all, the report
abbrev pub trace_rule : Config → EventRule
trace_rule cfg = rule_by (receiver_by cfg (trace_head 1) (λ history entry. entry_text entry) history_report)
