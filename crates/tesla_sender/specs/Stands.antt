-- The logs that a sender stands for, and the answers of its calls.
use Rattle.std.specs.Prelude.{◌≡◌, ℕ, ◌+◌, List, [], ◌∷◌, ◌++◌, length, take, Result, Ok, Err, IsOk, ◌==◌, if◌then◌else◌}
use Rattle.tesla_base.specs.declared.names.Name.{Name}
use Rattle.tesla_frame.specs.Frame.{Frame, HasLimits, IsFrame, frame_text}
use Rattle.tesla_frame.specs.Written.{Begins}
use Rattle.tesla_sender.specs.declared.refusal.DiscloseRefusal.{DiscloseRefusal}
use Rattle.tesla_sender.specs.declared.refusal.SendRefusal.{SendRefusal}
use Rattle.tesla_sender.specs.Made.{Call, Message, Disclose, Stream, any_due, chains_of, disclosed, disclosed_after, framed, interval_at, latest_of, messages_of, made_message, made_disclosure, name_after}

-- what a contract sees of a sender: its stream, the interval of the last accepted call, how many messages of
-- that interval were accepted, the most steps that the keys still take, and how many entries its tables have
-- room for: that of the chains, and those of each chain
pub record State : Type 0 where
  pub stream : Stream
  pub latest : ℕ
  pub used : ℕ
  pub left : ℕ
  pub reserved : ℕ

-- how many messages of the interval were accepted, where so many were of the interval `latest`, and none of a
-- later one
abbrev pub number_at : ℕ → ℕ → ℕ → ℕ
number_at latest used interval = if interval == latest then used else 0

-- ---- a call, by the state alone

-- the name of a message
abbrev pub name_next : State → ℕ → List ℕ → Result Name SendRefusal
name_next sender reading payload =
    let times = sender.stream.setup.times in
    name_after times sender.latest (number_at sender.latest sender.used (interval_at times reading)) reading payload

-- the answer to a message
abbrev pub returned_message : State → ℕ → List ℕ → Result Frame SendRefusal
returned_message sender reading payload = framed sender.stream payload (name_next sender reading payload)

-- the interval of a disclosure
abbrev pub interval_next : State → ℕ → Result ℕ DiscloseRefusal
interval_next sender reading =
    let times = sender.stream.setup.times in
    disclosed_after times sender.latest (any_due (interval_at times reading) (chains_of sender.stream)) reading

-- the answer to a disclosure
abbrev pub returned_disclosure : State → ℕ → Result Frame DiscloseRefusal
returned_disclosure sender reading = disclosed sender.stream (interval_next sender reading)

-- the sender goes on to the interval, after which the keys still take at most `left` steps
abbrev pub gone_on : State → ℕ → ℕ → State
gone_on sender interval left = record {
  stream = sender.stream;
  latest = interval;
  used = number_at sender.latest sender.used interval;
  left = left;
  reserved = sender.reserved;
}

-- the same, with one message more
abbrev pub sent_in : State → ℕ → ℕ → State
sent_in sender interval left = record {
  stream = sender.stream;
  latest = interval;
  used = number_at sender.latest sender.used interval + 1;
  left = left;
  reserved = sender.reserved;
}

-- ---- a call, by the log

-- the call is accepted after that log
abbrev pub IsAccepted : Stream → List Call → Call → Type 0
IsAccepted stream log (Message reading payload) = IsOk (made_message stream log reading payload)
IsAccepted stream log (Disclose reading) = IsOk (made_disclosure stream log reading)

-- each call is accepted after those before it
abbrev pub AreAcceptedAfter : Stream → List Call → List Call → Type 0
AreAcceptedAfter stream before [] = Unit {0}
AreAcceptedAfter stream before (call ∷ calls) = IsAccepted stream before call × AreAcceptedAfter stream (before ++ call ∷ []) calls

-- a sender stands for a log of accepted calls
pub record Stands (sender : State) (log : List Call) : Type 0 where
  pub accepted : AreAcceptedAfter sender.stream [] log
  pub latest : sender.latest ≡ latest_of sender.stream.setup.times log
  pub used : sender.used ≡ messages_of sender.stream.setup.times sender.latest log

-- the log after a call: one call more where it was accepted
abbrev pub log_after : {A E : Type 0} → List Call → Call → Result A E → List Call
log_after log call (Ok value) = log ++ call ∷ []
log_after log call (Err refusal) = log

-- the frame keeps its limits, its text begins the room, the bytes behind it are as before, and `size` is its length
pub record IsWritten (frame : Frame) (size : ℕ) (before now : List ℕ) : Type 0 where
  pub limits : HasLimits frame
  pub length : size ≡ length (frame_text frame)
  pub text : Begins (frame_text frame) before now

-- the answer is the frame, which is written, or the refusal
abbrev pub Answers : {E : Type 0} → Result ℕ E → Result Frame E → List ℕ → List ℕ → Type 0
Answers (Ok size) (Ok frame) before now = IsWritten frame size before now
Answers (Err returned) (Err refusal) before now = returned ≡ refusal
Answers (Ok size) (Err refusal) before now = ⊥
Answers (Err returned) (Ok frame) before now = ⊥

-- the bytes that were written spell the frame that was made, and it keeps its limits
abbrev pub Spells : {E : Type 0} → Result ℕ E → Result Frame E → List ℕ → Type 0
Spells (Ok size) (Ok frame) now = IsFrame (take size now) frame
Spells (Ok size) (Err refusal) now = Unit {0}
Spells (Err returned) made now = Unit {0}
