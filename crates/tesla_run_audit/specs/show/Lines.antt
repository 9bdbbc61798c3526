-- The lines of a receiver's entries.
use Rattle.std.specs.Prelude.{ℕ, Option, Some, None, List, ◌++◌, codes, decimal}
use Rattle.tesla_base.specs.declared.names.Name.{Name}
use Rattle.tesla_frame.specs.Frame.{Frame, Data, Disclosure}
use Rattle.tesla_frame.specs.Reading.{frame_of}
use Rattle.tesla_receiver.specs.Entries.{Entry}
use Rattle.tesla_receiver.specs.declared.history.Entry.TheVariants.{Arrived, Taken, Ended}
use Rattle.tesla_audit.specs.Answers.{reply_words, verdict_words}

-- the interval and the number of a message
abbrev pub name_words : Name → List ℕ
name_words name = decimal name.interval ++ codes "/" ++ decimal name.number

-- the name of the message that a data frame carries; a disclosure and what is no frame have none
abbrev pub frame_words : Option Frame → List ℕ
frame_words None = codes "-"
frame_words (Some (Data frame)) = name_words frame.name
frame_words (Some (Disclosure frame)) = codes "-"

-- what is told of an entry
abbrev pub entry_words : Entry → List ℕ
entry_words (Arrived arrival) =
    codes "arrival " ++ decimal arrival.ingest ++ codes " " ++ decimal arrival.reading ++ codes " " ++ verdict_words arrival.verdict ++ codes " " ++ frame_words (frame_of arrival.bytes)
entry_words (Taken releaser reply) = codes "take " ++ decimal releaser ++ codes " " ++ reply_words reply
entry_words (Ended ingest) = codes "end " ++ decimal ingest

-- the line of the entry of this number
unfoldable pub entry_line : ℕ → Entry → List ℕ
entry_line n entry = decimal n ++ codes " " ++ entry_words entry ++ codes "\n"
