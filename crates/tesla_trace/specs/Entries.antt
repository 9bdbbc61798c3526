-- What a place for one entry of a history holds.
use Rattle.std.specs.Prelude.{◌≡◌, ◌≤◌, ℕ, List, length, take}
use Rattle.tesla_receiver.specs.Entries.{Entry}
use Rattle.tesla_receiver.specs.declared.history.Entry.TheVariants.{Arrived, Taken, Ended}
use Rattle.tesla_state.specs.Replies.{reply_shown}
use Rattle.tesla_state.specs.declared.replies.Take.{Take}
use Rattle.tesla_state.specs.declared.replies.Take.TheVariants.{Given, Empty, Over}
use Rattle.tesla_trace.specs.declared.entry.EntryKind.{EntryKind}
use Rattle.tesla_trace.specs.declared.entry.EntryKind.TheVariants as kinds
use Rattle.tesla_trace.specs.declared.entry.EntryBuffer.{EntryBuffer}

-- the entry of a kind
abbrev pub entry_by : EntryKind → EntryBuffer → Entry
entry_by kinds.Arrival it =
    Arrived (record { ingest = it.who; reading = it.reading; bytes = take it.length it.bytes; verdict = it.verdict })
entry_by kinds.Take it = Taken it.who (reply_shown it.reply it.bytes)
entry_by kinds.End it = Ended it.who

-- the entry that a place holds
abbrev pub entry_in : EntryBuffer → Entry
entry_in it = entry_by it.kind it

-- the payload of a packet that was given stands at the start of the bytes, and is within its limit
abbrev pub FitsReply : Take → List ℕ → Type 0
FitsReply (Given head) bytes = (head.length ≤ length bytes) × (head.length ≤ 1200)
FitsReply Empty bytes = Unit {0}
FitsReply Over bytes = Unit {0}

-- the length told beside the answer to a take is that of the payload given, which is within its limit
abbrev pub TellsLength : Take → ℕ → Type 0
TellsLength (Given head) returned = (returned ≡ head.length) × (head.length ≤ 1200)
TellsLength Empty returned = Unit {0}
TellsLength Over returned = Unit {0}

-- the fields that the kind uses are within their limits
abbrev pub IsEntryBy : EntryKind → EntryBuffer → Type 0
IsEntryBy kinds.Arrival it = it.length ≤ 2048
IsEntryBy kinds.Take it = TellsLength it.reply it.length
IsEntryBy kinds.End it = Unit {0}

-- the place holds an entry
abbrev pub IsEntry : EntryBuffer → Type 0
IsEntry it = IsEntryBy it.kind it
