-- What checking an entry against a receiver answers.
use Rattle.std.specs.Prelude.{◌≡◌, ◌≢◌, ℕ, ◌≤◌, List, [], Result, Ok, Err}
use Rattle.tesla_fitting.specs.declared.config.Config.{Config}
use Rattle.tesla_receiver.specs.History.{entry_of, event_of}
use Rattle.tesla_receiver.specs.Entries.{Entry}
use Rattle.tesla_receiver.specs.declared.history.Entry.TheVariants.{Arrived, Taken}
use Rattle.tesla_state.specs.Replies.{reply_shown}
use Rattle.tesla_state.specs.declared.replies.Take.{Take}
use Rattle.tesla_state.specs.declared.replies.Take.TheVariants as takes
use Rattle.tesla_audit.specs.Answers.{verdict_words, reply_words}
use Rattle.tesla_audit.specs.declared.auditor.Answer.{Answer}
use Rattle.tesla_audit.specs.declared.auditor.Answer.TheVariants as answers

-- the right entry has this answer; of a payload the answer tells the length alone
abbrev pub HasAnswer : Entry → Answer → Type 0
HasAnswer (Arrived arrival) (answers.Verdict verdict) = arrival.verdict ≡ verdict
HasAnswer (Taken releaser reply) (answers.Take returned) = (payload : List ℕ) × (reply ≡ reply_shown returned payload)
HasAnswer _ _ = ⊥

-- what an answer is called
abbrev pub answer_text : Answer → List ℕ
answer_text (answers.Verdict verdict) = verdict_words verdict
answer_text (answers.Take reply) = reply_words (reply_shown reply [])

-- after a history an entry is the one answer to its event, or it isn't and this is
abbrev pub Checks : Config → List Entry → Entry → Result (Unit {0}) Answer → Type 0
Checks cfg history entry (Ok checked) = entry ≡ entry_of cfg history (event_of entry)
Checks cfg history entry (Err answer) =
    (entry_of cfg history (event_of entry) ≢ entry) × HasAnswer (entry_of cfg history (event_of entry)) answer

-- the payload of a packet that this answer gives has at most 1,200 bytes
abbrev pub IsShort : Take → Type 0
IsShort (takes.Given head) = head.length ≤ 1200
IsShort takes.Empty = Unit {0}
IsShort takes.Over = Unit {0}
