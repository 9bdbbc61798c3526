-- Which arrivals are early: a learnt promise is that of their message. After the immediate authentication of Perrig, Canetti, Tygar and Song (IEEE S&P 2000).
use Rattle.std.specs.Prelude.{ℕ, Bool, true, false, List, [], ◌++◌, Option, Some, None, cond, if◌then◌else◌}
use Rattle.std.specs.List.{enumerate_from, fold}
use Rattle.sha2.specs.Sha256.{sha256}
use Rattle.tesla_base.specs.declared.names.Name.{Name}
use Rattle.tesla_fitting.specs.declared.verdict.Verdict.{Verdict}
use Rattle.tesla_fitting.specs.declared.verdict.Verdict.TheVariants as verdicts
use Rattle.tesla_frame.specs.Frame.{Frame, Data, Disclosure}
use Rattle.tesla_frame.specs.Reading.{frame_of}
use Rattle.tesla_receiver.specs.Entries.{Arrival, Entry}
use Rattle.tesla_receiver.specs.declared.history.Entry.TheVariants.{Arrived, Taken, Ended}
use Rattle.tesla_state.specs.declared.replies.Reply.{Reply}
use Rattle.tesla_state.specs.declared.replies.Reply.TheVariants.{Given, Empty, Over}
use Rattle.tesla_early.specs.Learnt.{Learnt, has_promise, is_kept_by, on_last, taught_by, use_first}

-- ---- an arrival

-- a message: its name, and its payload
pub record Message : Type 0 where
  pub name : Name
  pub payload : List ℕ

-- the message of a data frame
abbrev pub message_in : Option Frame → Option Message
message_in (Some (Data frame)) = Some (record { name = frame.name; payload = frame.payload })
message_in (Some (Disclosure frame)) = None
message_in None = None

-- the message of a datagram
abbrev pub message_of : List ℕ → Option Message
message_of bytes = message_in (frame_of bytes)

-- the verdicts on the frames of messages that fit the setup and whose keys were taken
abbrev pub may_be_early : Verdict → Bool
may_be_early verdicts.Malformed = false
may_be_early (verdicts.Foreign stream) = false
may_be_early verdicts.Misfit = false
may_be_early (verdicts.Future bound) = false
may_be_early (verdicts.BadKey chain) = false
may_be_early verdicts.Late = true
may_be_early verdicts.Repeat = true
may_be_early verdicts.Full = true
may_be_early (verdicts.Kept chains) = true
may_be_early verdicts.Keys = false

-- the message of an arrival with one of these verdicts
abbrev pub candidate : Arrival → Option Message
candidate arrival = if may_be_early arrival.verdict then message_of arrival.bytes else None

-- of the last so many promises, one that isn't used is of this message
abbrev pub is_promised : ℕ → List Learnt → Option Message → Bool
is_promised most learnt (Some message) = has_promise most learnt message.name (sha256 message.payload)
is_promised most learnt None = false

-- ---- a history

-- a message that is promised uses the first promise of it, and teaches its own
abbrev pub accepted : ℕ → List Learnt → ℕ → Option Message → List Learnt
accepted most learnt entry (Some message) = on_last most (use_first (is_kept_by message.name (sha256 message.payload))) learnt ++ taught_by entry message.payload
accepted most learnt entry None = learnt

-- the promises once a take was answered so: a packet that is given teaches the promise of its payload
abbrev pub given_learnt : List Learnt → ℕ → Reply → List Learnt
given_learnt learnt entry (Given head payload) = learnt ++ taught_by entry payload
given_learnt learnt entry Empty = learnt
given_learnt learnt entry Over = learnt

-- the promises after an entry of this place, told those before it
abbrev pub learnt_with : ℕ → List Learnt → ℕ → Entry → List Learnt
learnt_with most learnt index (Arrived arrival) = cond (is_promised most learnt (candidate arrival)) (accepted most learnt index (candidate arrival)) learnt
learnt_with most learnt index (Taken releaser reply) = given_learnt learnt index reply
learnt_with most learnt index (Ended ingest) = learnt

abbrev pub learnt_after : ℕ → List Learnt → ℕ × Entry → List Learnt
learnt_after most learnt p = learnt_with most learnt p.0 p.1

-- the promises that were learnt in a history, in order, of which the last so many count
unfoldable pub learnt : ℕ → List Entry → List Learnt
learnt most history = fold (learnt_after most) [] (enumerate_from 0 history)

-- an arrival behind this history is early: its verdict is one of those above, and of the last so many promises one that isn't used is of its message
abbrev pub is_early : ℕ → List Entry → Arrival → Bool
is_early most history arrival = is_promised most (learnt most history) (candidate arrival)
