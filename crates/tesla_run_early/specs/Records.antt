-- What is written of given packets and of messages accepted on arrival.
use Rattle.std.specs.Prelude.{ℕ, ◌==◌, List, [], Option, Some, None, cond, if◌then◌else◌}
use Rattle.tesla_capture.specs.Release.{accepted_text, marked_text}
use Rattle.tesla_receiver.specs.Entries.{Entry}
use Rattle.tesla_receiver.specs.declared.history.Entry.TheVariants.{Arrived, Taken, Ended}
use Rattle.tesla_state.specs.Releases.{each_after}
use Rattle.tesla_state.specs.declared.replies.Reply.{Reply}
use Rattle.tesla_state.specs.declared.replies.Reply.TheVariants.{Given, Empty, Over}
use Rattle.tesla_early.specs.Early.{Message, candidate, is_early}

-- the record of a packet that was given, behind the byte 0
abbrev pub given_text : Reply → List ℕ
given_text (Given head payload) = marked_text 0 head payload
given_text Empty = []
given_text Over = []

-- the record of a message
abbrev pub message_text : Option Message → List ℕ
message_text (Some message) = accepted_text message.name message.payload
message_text None = []

-- what is written of an entry behind a history: the packet that a take by this releaser gave, or the message of an early arrival
abbrev pub early_record_in : ℕ → ℕ → List Entry → Entry → List ℕ
early_record_in most releaser history (Taken taker reply) = if taker == releaser then given_text reply else []
early_record_in most releaser history (Arrived arrival) = cond (is_early most history arrival) (message_text (candidate arrival)) []
early_record_in most releaser history (Ended ingest) = []

-- what is written of a history, in the order of its entries
abbrev pub early_records_of : ℕ → ℕ → List Entry → List ℕ
early_records_of most releaser history = each_after (early_record_in most releaser) [] history
