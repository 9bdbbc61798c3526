-- A sender and a receiver with the frames between them, as worlds.
use Rattle.std.specs.Prelude.{◌≡◌, ℕ, ◌+◌, ◌<◌, ◌≤◌, ◌++◌, ◌∷◌, [], List, length, map, Option, Some, None, Result, Ok, Err, IsOk}
use Rattle.tesla_fitting.specs.declared.verdict.Verdict.{Verdict}
use Rattle.tesla_frame.specs.Frame.{Frame}
use Rattle.tesla_receiver.specs.History.{Arrives, Event, entry_of}
use Rattle.tesla_receiver.specs.Stands.{Stands}
use Rattle.tesla_receiver.specs.Entries.{Entry}
use Rattle.tesla_receiver.specs.declared.history.Entry.TheVariants.{Arrived}
use Rattle.tesla_sender.specs.Made.{Call, reading_of}
use Rattle.tesla_sender.specs.Stands as sending
use Rattle.tesla_sender.specs.declared.refusal.DiscloseRefusal.{DiscloseRefusal}
use Rattle.tesla_sender.specs.declared.refusal.SendRefusal.{SendRefusal}
use Rattle.tesla_state.specs.State.{State}
use Rattle.tesla_world.specs.Laws.{IsComplete, IsSecure, SentAreNotFuture}
use Rattle.tesla_world.specs.World.{Received, Dated, Joined, Moment, Sent, sent_in}
use Rattle.tesla_world.specs.declared.refusal.JointRefusal.{JointRefusal}
use Rattle.tesla_world.specs.declared.refusal.JointRefusal.TheVariants as refused
use Rattle.tesla_world.specs.declared.refusal.NoSuch.{NoSuch}

-- what a contract sees of a joint: its sender and its receiver, each with the room of its tables, the bytes of the frames
-- that were sent, in order, and for how many frames there is room in all
pub record JointState : Type 0 where
  pub sender : sending.State
  pub receiver : State
  pub frames : List (List ℕ)
  pub reserved : ℕ

abbrev pub bytes_of : Dated → List ℕ
bytes_of dated = dated.bytes

-- the world is that of the joint's sender, after these calls, and of its receiver, with this history
pub record StandsFor (joint : JointState) (world : List Moment) (log : List Call) (history : List Entry) : Type 0 where
  pub joined : Joined joint.receiver.config joint.sender.stream.seeds world log history
  pub sends : sending.Stands joint.sender log
  pub receives : Stands joint.receiver history
  -- the frames are those that were sent
  pub sent : joint.frames ≡ map bytes_of (sent_in world)
  -- both are of one setup
  pub setup : joint.sender.stream.setup ≡ joint.receiver.config.setup

-- the security condition, the honest completeness and the law of the future hold of each world that the joint stands for
unfoldable pub IsLawful : JointState → Type 0
IsLawful joint =
    (world : List Moment) (log : List Call) (history : List Entry) → StandsFor joint world log history →
    IsSecure joint.receiver.config joint.sender.stream.seeds world history × IsComplete joint.receiver.config joint.sender.stream.seeds history
    × SentAreNotFuture joint.receiver.config world history

-- ---- what is sent

-- the frame of the call was sent, with the next number: the worlds have one moment more, and the logs one call
pub record HasSent (old new : JointState) (call : Call) (number : ℕ) : Type 0 where
  pub next : number ≡ length old.frames
  pub bytes : List ℕ
  pub more : new.frames ≡ old.frames ++ bytes ∷ []
  pub stands : (world : List Moment) (log : List Call) (history : List Entry) → StandsFor old world log history →
      StandsFor new (world ++ Sent (reading_of call) bytes ∷ []) (log ++ call ∷ []) history
  pub stream : new.sender.stream ≡ old.sender.stream
  pub receiver_is : new.receiver ≡ old.receiver

-- the frame was sent, or nothing has changed but for how many frames there is room
abbrev pub Sends : JointState → JointState → Call → Result ℕ JointRefusal → Type 0
Sends old new call (Ok number) = HasSent old new call number
Sends old new call (Err refusal) = new ≡ record old { reserved = new.reserved }

-- a message is refused as the sender refuses it, or for want of memory
abbrev pub RefusesMessage : Result ℕ JointRefusal → Result Frame SendRefusal → Type 0
RefusesMessage (Ok number) made = IsOk made
RefusesMessage (Err (refused.Send refusal)) made = made ≡ Err refusal
RefusesMessage (Err (refused.Disclose refusal)) made = ⊥
RefusesMessage (Err refused.NoMemory) made = Unit {0}

-- and so is a disclosure
abbrev pub RefusesDisclosure : Result ℕ JointRefusal → Result Frame DiscloseRefusal → Type 0
RefusesDisclosure (Ok number) made = IsOk made
RefusesDisclosure (Err (refused.Send refusal)) made = ⊥
RefusesDisclosure (Err (refused.Disclose refusal)) made = made ≡ Err refusal
RefusesDisclosure (Err refused.NoMemory) made = Unit {0}

-- ---- memory

-- nothing has room for more or for less than before: the call took no memory, and gave none back
pub record KeepsReserved (old new : JointState) : Type 0 where
  pub sender : new.sender.reserved ≡ old.sender.reserved
  pub receiver : new.receiver.reserved ≡ old.receiver.reserved
  pub frames : new.reserved ≡ old.reserved

-- room for frames was taken where there was none for one more, and else not
abbrev pub TakesRoom : JointState → JointState → Result ℕ JointRefusal → Type 0
TakesRoom old new (Err refused.NoMemory) = (old.reserved ≤ length old.frames) × (new.reserved ≡ old.reserved)
TakesRoom old new _ =
    (length old.frames < new.reserved) × (old.reserved ≤ new.reserved)
    × (length old.frames < old.reserved → new.reserved ≡ old.reserved)

-- that is all that a call which sends took: neither the sender nor the receiver took any
pub record ReservesFrame (old new : JointState) (result : Result ℕ JointRefusal) : Type 0 where
  pub sender : new.sender.reserved ≡ old.sender.reserved
  pub receiver : new.receiver.reserved ≡ old.receiver.reserved
  pub frames : TakesRoom old new result

-- ---- what comes

-- at this reading these bytes came to ingest 0, and were judged: the worlds have one moment more, and the histories its entry
pub record HasCome (old new : JointState) (reading : ℕ) (bytes : List ℕ) (verdict : Verdict) : Type 0 where
  pub answer : (world : List Moment) (log : List Call) (history : List Entry) → StandsFor old world log history →
      Arrived (record { ingest = 0; reading = reading; bytes = bytes; verdict = verdict }) ≡ entry_of old.receiver.config history (Arrives 0 reading bytes)
  pub stands : (world : List Moment) (log : List Call) (history : List Entry) → StandsFor old world log history →
      StandsFor new (world ++ Received reading bytes ∷ []) log (history ++ entry_of old.receiver.config history (Arrives 0 reading bytes) ∷ [])
  pub config : new.receiver.config ≡ old.receiver.config
  pub calls : new.receiver.calls ≡ old.receiver.calls + 1
  pub sender_is : new.sender ≡ old.sender
  pub frames_are : new.frames ≡ old.frames

-- the frame of that number came, or there is none and nothing has changed
abbrev pub Delivers : JointState → JointState → ℕ → Option (List ℕ) → Result Verdict NoSuch → Type 0
Delivers old new reading (Some bytes) (Ok verdict) = HasCome old new reading bytes verdict
Delivers old new reading (Some bytes) (Err none) = ⊥
Delivers old new reading None (Ok verdict) = ⊥
Delivers old new reading None (Err none) = new ≡ old

-- ---- what happens to the receiver alone

-- the receiver had this event, which is no moment of the world
pub record HasHad (old new : JointState) (event : Event) : Type 0 where
  pub stands : (world : List Moment) (log : List Call) (history : List Entry) → StandsFor old world log history →
      StandsFor new world log (history ++ entry_of old.receiver.config history event ∷ [])
  pub config : new.receiver.config ≡ old.receiver.config
  pub calls : new.receiver.calls ≡ old.receiver.calls + 1
  pub sender_is : new.sender ≡ old.sender
  pub frames_are : new.frames ≡ old.frames
