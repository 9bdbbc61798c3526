-- Receivers in slots.
use Rattle.std.specs.Prelude.{◌≡◌, ℕ, ℤ, Bool, true, false, List, [], Result, Ok, Err, nat_le, ◌&&◌, ◌==◌, ◌-◌, ◌^◌, if◌then◌else◌, take}
use Rattle.std.specs.declared.option.Option.{Option}
use Rattle.std.specs.declared.option.Option.TheVariants.{None, Some}
use Rattle.tesla_commit.specs.Parts.{Parts}
use Rattle.tesla_commit.specs.declared.refusal.SetupKind.{SetupKind}
use Rattle.tesla_fitting.specs.declared.config.Config.{Config}
use Rattle.tesla_receiver.specs.Entries.{Entry}
use Rattle.tesla_receiver.specs.declared.history.Entry.TheVariants.{Arrived, Taken, Ended}
use Rattle.tesla_receiver.specs.Stands.{Stands}
use Rattle.tesla_state.specs.declared.replies.Reply.{Reply}
use Rattle.tesla_state.specs.declared.replies.Reply.TheVariants as replies
use Rattle.tesla_c.specs.Told.{kind_code, verdict_told, head_told}
use Rattle.tesla_c.specs.declared.answers.CRefusal.{CRefusal}
use Rattle.tesla_c.specs.declared.answers.CVerdict.{CVerdict}
use Rattle.tesla_c.specs.declared.answers.CHead.{CHead}
use Rattle.tesla_c.specs.declared.engine.Engine.{Engine}
use Rattle.tesla_c.specs.declared.opening.OpenRefusal.{OpenRefusal}
use Rattle.tesla_c.specs.declared.opening.OpenRefusal.TheVariants as refusals
use Rattle.tesla_c.specs.declared.engine.Engine.TheVariants.{Receiving, Sending, Following}

-- what was opened is a receiver of this configuration that stands for this history
abbrev pub IsReceiver : Engine → Config → List Entry → Type 0
IsReceiver (Receiving state) config history = (state.config ≡ config) × Stands state history
IsReceiver (Sending state) config history = ⊥
IsReceiver (Following state) config history = ⊥

-- a slot holds such a receiver
abbrev pub HasReceiver : Option Engine → Config → List Entry → Type 0
HasReceiver None config history = ⊥
HasReceiver (Some engine) config history = IsReceiver engine config history

-- the status of a call of a receiver that counts, but for what a take answers: what was opened is another, or so many calls were made of it
abbrev pub counted_status : Engine → ℕ
counted_status (Receiving state) = if state.calls == 2 ^ 64 - 1 then 5 else 0
counted_status (Sending state) = 4
counted_status (Following state) = 4

-- the same of what a slot holds
abbrev pub call_status : Option Engine → ℕ
call_status None = 4
call_status (Some engine) = counted_status engine

abbrev pub is_received : Engine → Bool
is_received (Receiving state) = true
is_received (Sending state) = false
is_received (Following state) = false

-- the status of a close: an empty slot stays as it is
abbrev pub close_status : Option Engine → ℕ
close_status None = 0
close_status (Some engine) = if is_received engine then 0 else 4

-- the numbers of an opening: 0, or the first that is outside its limits, as parameters count from 1
abbrev pub bad_number : (capacity quota ingests : ℕ) → ℕ
bad_number capacity quota ingests =
    if nat_le 1 capacity && nat_le capacity 65536 then (if nat_le 1 quota && nat_le quota capacity then (if nat_le 1 ingests then 0 else 6) else 5) else 4

-- what was opened is a receiver of the setup that is judged, in which nothing has happened
abbrev pub IsOpened : Result Parts (ℕ × SetupKind) → ℤ → (capacity quota ingests : ℕ) → Option Engine → Type 0
IsOpened (Ok setup) lag capacity quota ingests held = HasReceiver held (record { setup = setup; lag = lag; capacity = capacity; quota = quota; ingests = ingests }) []
IsOpened (Err refusal) lag capacity quota ingests held = ⊥

-- the line and the kind are those that are judged
abbrev pub IsRefused : Result Parts (ℕ × SetupKind) → CRefusal → Type 0
IsRefused (Ok setup) told = ⊥
IsRefused (Err refusal) told = (told.line ≡ refusal.0) × (told.kind ≡ kind_code refusal.1)

-- why nothing is opened is what is judged of the text, or want of memory for a setup
abbrev pub IsRefusedBy : Result Parts (ℕ × SetupKind) → OpenRefusal → Type 0
IsRefusedBy judged (refusals.Text line kind) = judged ≡ Err (line, kind)
IsRefusedBy (Ok setup) refusals.NoMemory = Unit {0}
IsRefusedBy (Err refusal) refusals.NoMemory = ⊥

-- memory was wanting for the receiver of a setup
abbrev pub IsWanting : Result Parts (ℕ × SetupKind) → Type 0
IsWanting (Ok setup) = Unit {0}
IsWanting (Err refusal) = ⊥

-- the verdict of an entry is told
abbrev pub TellsVerdict : Entry → CVerdict → Type 0
TellsVerdict (Arrived arrival) told = told ≡ verdict_told arrival.verdict
TellsVerdict (Taken releaser reply) told = ⊥
TellsVerdict (Ended ingest) told = ⊥

-- a reply is told: the status, the head, and the payload at the start of the room
abbrev pub TellsReply : Reply → ℕ → CHead → List ℕ → Type 0
TellsReply (replies.Given head payload) status told room = (status ≡ 0) × (told ≡ head_told head) × (take head.length room ≡ payload)
TellsReply replies.Empty status told room = status ≡ 6
TellsReply replies.Over status told room = status ≡ 7
