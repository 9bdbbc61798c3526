-- What roll comes to, its lines, and what OUT holds.
use Rattle.std.specs.Prelude.{ℕ, true, false, is_none, List, [], ◌++◌, codes}
use Rattle.tesla_capture.specs.Outline.{outline_of}
use Rattle.tesla_fitting.specs.declared.config.Config.{Config}
use Rattle.tesla_front.specs.Command.{Command}
use Rattle.tesla_front.specs.Lines.{count_line}
use Rattle.tesla_convert.specs.Meaning.{Meaning}
use Rattle.tesla_rollover.specs.Epochs.{roll_entry_of}
use Rattle.tesla_rollover.specs.Events.{roll_after_events, roll_waiting_in}
use Rattle.tesla_rollover.specs.History.{RollEntry, epoch_count, roll_given_in}
use Rattle.tesla_run_replay.specs.Playing.{EventRule, HistoryRule, meaning_of, rule_by}
use Rattle.tesla_run_replay.specs.Under.{PlayedCommand, command_of}
use Rattle.tesla_run_roll.specs.Arguments.{roll_form}
use Rattle.tesla_run_roll.specs.Played.{WantsMemory, roll_played, roll_record_in, roll_records_of, wants_memory}

-- the one history that a file plays: that of the records before its first refused place, and where there is none the end and takes up to the first that is over
abbrev pub history_of : Config → List ℕ → List RollEntry
history_of cfg bytes = roll_played cfg (outline_of bytes).records (is_none (outline_of bytes).fault)

-- the lines that tell a history: how many epochs there are, and how many packets were given
unfoldable pub roll_text : List RollEntry → List ℕ
roll_text history = count_line (codes "epochs") (epoch_count history) ++ count_line (codes "given") (roll_given_in history)

-- what a capture comes to, as functions of its bytes: the counts of its history or the refused place are told, and the record of each packet that is given is written, behind the number of its epoch; where a packet should open an epoch, memory may be wanting, and then the record of that packet is the last
abbrev pub meaning : Config → Meaning
meaning cfg = record (meaning_of (roll_played cfg) roll_text (roll_records_of 0)) { MayWant = Unit {0}; IsWanting = λ bytes written. WantsMemory cfg (history_of cfg bytes) written }

-- the command: its words, and what a capture comes to under a setup
abbrev pub rolled : PlayedCommand
rolled = record { form = roll_form; meaning = meaning }

abbrev pub roll : Command
roll = command_of rolled

-- what the epochs of that first configuration write, the records of what their takes give, and tell
abbrev pub epochs_by : Config → HistoryRule RollEntry
epochs_by cfg = record {
  after = roll_after_events cfg [];
  entry = λ history event. roll_entry_of cfg history true event;
  begins = [];
  adds = λ history entry. roll_record_in 0 entry;
  waiting = roll_waiting_in cfg;
  tells = roll_text;
  wants = λ history event. wants_memory (roll_entry_of cfg history false event);
}

abbrev pub roll_rule : Config → EventRule
roll_rule cfg = rule_by (epochs_by cfg)
