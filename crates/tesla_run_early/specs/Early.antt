-- What early comes to, and what OUT holds.
use Rattle.std.specs.Prelude.{ℕ, List, codes}
use Rattle.tesla_fitting.specs.declared.config.Config.{Config}
use Rattle.tesla_front.specs.Command.{Command}
use Rattle.tesla_replay.specs.Played.{played}
use Rattle.tesla_convert.specs.Meaning.{Meaning}
use Rattle.tesla_run_replay.specs.Arguments.{IsPlayed, PlayedArguments, limits_form}
use Rattle.tesla_run_replay.specs.Playing.{meaning_of}
use Rattle.tesla_run_replay.specs.Under.{PlayedCommand, command_of}
use Rattle.tesla_run_early.specs.Playing.{early_text, promises}
use Rattle.tesla_run_early.specs.Records.{early_records_of}

-- the words are the form 'early SETUP LAG CAPACITY CAPTURE OUT'
abbrev pub IsEarly : PlayedArguments → List (List ℕ) → Type 0
IsEarly = IsPlayed (limits_form (codes "early"))

-- what a capture comes to, as functions of its bytes: the counts of the history that it plays or the refused place are told, and the record of each packet that is given in it and of each early arrival is written, in the order of its entries; memory is wanting before the capture is read or not at all
abbrev pub meaning : Config → Meaning
meaning cfg = meaning_of (played cfg) early_text (early_records_of promises 0)

-- the command: its words, and what a capture comes to under a setup
abbrev pub played_early : PlayedCommand
played_early = record { form = limits_form (codes "early"); meaning = meaning }

abbrev pub early : Command
early = command_of played_early
