-- What the views of the parts of an entry show.
use Rattle.std.specs.Prelude.{ℕ, ◌≤◌, List, length}
use Rattle.tesla_fitting.specs.declared.verdict.Verdict.{Verdict}
use Rattle.tesla_receiver.specs.Entries.{Entry}
use Rattle.tesla_receiver.specs.declared.history.Entry.TheVariants.{Arrived, Taken, Ended}
use Rattle.tesla_state.specs.declared.replies.Reply.{Reply}
use Rattle.tesla_state.specs.declared.replies.Reply.TheVariants as replies
use Rattle.tesla_state.specs.declared.replies.Take.{Take}
use Rattle.tesla_state.specs.declared.replies.Take.TheVariants.{Given, Empty, Over}
use Rattle.tesla_trace.specs.Entries.{TellsLength}
use Rattle.tesla_trace.specs.Parsing.{Part, Short, Wrong, Read, ◌>>=◌}
use Rattle.tesla_trace.specs.declared.parts.Found.{Found}
use Rattle.tesla_trace.specs.declared.parts.Found.TheVariants as found
use Rattle.tesla_trace.specs.declared.view.EntryView.{EntryView}
use Rattle.tesla_trace.specs.declared.view.EntryView.TheVariants as views
use Rattle.tesla_trace.specs.declared.view.ReplyView.{ReplyView}

-- what was found, told what a value shows
abbrev pub part_shown : {A B : Type 0} → (A → B) → Found A → Part B
part_shown show found.Short = Short
part_shown show (found.Wrong fault) = Wrong fault
part_shown show (found.Read value rest) = Read (show value, rest.now)

-- where a part was found, it is so
abbrev pub OnRead : {A : Type 0} → Found A → (A → Type 0) → Type 0
OnRead found.Short P = Unit {0}
OnRead (found.Wrong fault) P = Unit {0}
OnRead (found.Read value rest) P = P value

-- an answer to a take, with all of a payload
abbrev pub reply_with : Take → List ℕ → Reply
reply_with (Given head) payload = replies.Given head payload
reply_with Empty payload = replies.Empty
reply_with Over payload = replies.Over

abbrev pub reply_seen : ReplyView → Reply
reply_seen view = reply_with view.reply view.payload.now

-- the entry that a view shows
abbrev pub entry_seen : EntryView → Entry
entry_seen (views.Arrival ingest reading bytes verdict) =
    Arrived (record { ingest = ingest; reading = reading; bytes = bytes.now; verdict = verdict })
entry_seen (views.Take releaser answer) = Taken releaser (reply_seen answer)
entry_seen (views.End ingest) = Ended ingest

-- an arrival, told what is found of its verdict
abbrev pub arrival_with : ℕ → ℕ → List ℕ → Part Verdict → Part Entry
arrival_with ingest reading bytes verdict = do
  returned ← verdict
  Read (Arrived (record { ingest = ingest; reading = reading; bytes = bytes; verdict = returned.0 }), returned.1)

-- the answer tells the length of its payload
abbrev pub ReplyIsWithin : ReplyView → Type 0
ReplyIsWithin view = TellsLength view.reply (length view.payload.now)

-- the fields of a view are within their limits
abbrev pub IsWithin : EntryView → Type 0
IsWithin (views.Arrival ingest reading bytes verdict) = length bytes.now ≤ 2048
IsWithin (views.Take releaser answer) = ReplyIsWithin answer
IsWithin (views.End ingest) = Unit {0}
