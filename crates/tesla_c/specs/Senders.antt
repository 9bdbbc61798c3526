-- Senders in slots.
use Rattle.std.specs.Prelude.{◌≡◌, ℕ, ◌+◌, Bool, true, false, List, [], ◌∷◌, ◌++◌, Result, Ok, Err, length, nat_lt, ◌==◌, if◌then◌else◌}
use Rattle.std.specs.declared.option.Option.{Option}
use Rattle.std.specs.declared.option.Option.TheVariants.{None, Some}
use Rattle.tesla_base.specs.declared.names.Key.{Key}
use Rattle.tesla_commit.specs.Parts.{Parts}
use Rattle.tesla_commit.specs.declared.refusal.SetupKind.{SetupKind}
use Rattle.tesla_frame.specs.Frame.{Frame}
use Rattle.tesla_seeds.specs.Judged.{seeds_judged}
use Rattle.tesla_seeds.specs.declared.refusal.SeedsKind.{SeedsKind}
use Rattle.tesla_seeds.specs.declared.refusal.SeedsKind.TheVariants as seeds_kinds
use Rattle.tesla_sender.specs.Made.{Call, Chain, Stream, chains_of}
use Rattle.tesla_sender.specs.Opening.{first_wrong}
use Rattle.tesla_sender.specs.Stands.{IsWritten, Stands, State}
use Rattle.tesla_sender.specs.declared.refusal.DiscloseRefusal.{DiscloseRefusal}
use Rattle.tesla_sender.specs.declared.refusal.DiscloseRefusal.TheVariants as undisclosed
use Rattle.tesla_sender.specs.declared.refusal.SendRefusal.{SendRefusal}
use Rattle.tesla_sender.specs.declared.refusal.SendRefusal.TheVariants as unsent
use Rattle.tesla_c.specs.Told.{kind_code}
use Rattle.tesla_c.specs.declared.engine.Engine.{Engine}
use Rattle.tesla_c.specs.declared.engine.Engine.TheVariants.{Receiving, Sending, Following}
use Rattle.tesla_c.specs.declared.sender_answers.CCause.{CCause}
use Rattle.tesla_c.specs.declared.sender_answers.CSenderRefusal.{CSenderRefusal}
use Rattle.tesla_c.specs.declared.sender_opening.Unopened.{Unopened}
use Rattle.tesla_c.specs.declared.sender_opening.Unopened.TheVariants as unopened

-- ---- what a slot holds

-- what was opened is a sender of this stream that stands for this log
abbrev pub IsSender : Engine → Stream → List Call → Type 0
IsSender (Receiving state) stream log = ⊥
IsSender (Sending state) stream log = (state.stream ≡ stream) × Stands state log
IsSender (Following state) stream log = ⊥

-- a slot holds such a sender
abbrev pub HasSender : Option Engine → Stream → List Call → Type 0
HasSender None stream log = ⊥
HasSender (Some engine) stream log = IsSender engine stream log

-- where what was opened is a sender, this is true of it
abbrev pub IfSending : Engine → (State → Type 0) → Type 0
IfSending (Receiving state) P = Unit {0}
IfSending (Sending state) P = P state
IfSending (Following state) P = Unit {0}

-- where a slot holds a sender, this is true of it
abbrev pub IfHeld : Option Engine → (State → Type 0) → Type 0
IfHeld None P = Unit {0}
IfHeld (Some engine) P = IfSending engine P

-- what was opened is a sender, and this is true of it
abbrev pub IsSending : Engine → (State → Type 0) → Type 0
IsSending (Receiving state) P = ⊥
IsSending (Sending state) P = P state
IsSending (Following state) P = ⊥

-- a slot holds a sender, and this is true of it
abbrev pub IsHeld : Option Engine → (State → Type 0) → Type 0
IsHeld None P = ⊥
IsHeld (Some engine) P = IsSending engine P

-- the status of a call of a sender that nothing refuses
abbrev pub sending_status : Engine → ℕ
sending_status (Receiving state) = 4
sending_status (Sending state) = 0
sending_status (Following state) = 4

-- the same of what a slot holds
abbrev pub sender_status : Option Engine → ℕ
sender_status None = 4
sender_status (Some engine) = sending_status engine

abbrev pub is_sending : Engine → Bool
is_sending (Receiving state) = false
is_sending (Sending state) = true
is_sending (Following state) = false

-- the status of a close: an empty slot stays as it is
abbrev pub sender_close_status : Option Engine → ℕ
sender_close_status None = 0
sender_close_status (Some engine) = if is_sending engine then 0 else 4

-- the status of going on to an interval, which isn't before that of the last accepted call
abbrev pub going_status : Engine → ℕ → ℕ
going_status (Receiving state) interval = 4
going_status (Sending state) interval = if nat_lt interval state.latest then 2 else 0
going_status (Following state) interval = 4

-- the same of what a slot holds
abbrev pub begin_status : Option Engine → ℕ → ℕ
begin_status None interval = 4
begin_status (Some engine) interval = going_status engine interval

-- a sender once the keys of the next interval were made, after which the keys still take at most so many steps
abbrev pub ahead_of : State → ℕ → State
ahead_of sender left = record { stream = sender.stream; latest = sender.latest; used = sender.used; left = left; reserved = sender.reserved }

-- ---- calls

-- why a message isn't accepted, in numbers
abbrev pub message_cause : SendRefusal → CCause
message_cause (unsent.TooLong length) = record { kind = 1; number = length }
message_cause (unsent.Early reading) = record { kind = 2; number = reading }
message_cause (unsent.Over interval) = record { kind = 3; number = interval }
message_cause (unsent.Backward interval) = record { kind = 4; number = interval }
message_cause (unsent.IntervalFull interval) = record { kind = 5; number = interval }

-- why a disclosure isn't accepted, in numbers
abbrev pub disclosure_cause : DiscloseRefusal → CCause
disclosure_cause (undisclosed.Backward interval) = record { kind = 4; number = interval }
disclosure_cause undisclosed.NothingDue = record { kind = 6; number = 0 }

-- the frame that was made begins the room, and its length is told; or the cause of the refusal is told
abbrev pub TellsMade : {E : Type 0} → (E → CCause) → Result Frame E → (status written : ℕ) → CCause → (before now : List ℕ) → Type 0
TellsMade told (Ok frame) status written cause before now = (status ≡ 0) × IsWritten frame written before now
TellsMade told (Err refusal) status written cause before now = (status ≡ 1) × (cause ≡ told refusal)

-- the log after a call of that status: one call more where it was accepted
abbrev pub log_by : List Call → Call → ℕ → List Call
log_by log call status = if status == 0 then log ++ call ∷ [] else log

-- ---- openings

-- the number of a kind of refused seeds
abbrev pub seeds_code : SeedsKind → ℕ
seeds_code seeds_kinds.BadLine = 16
seeds_code seeds_kinds.BadHex = 17
seeds_code seeds_kinds.WrongCount = 18
seeds_code seeds_kinds.TooLong = 19

-- the stream of a setup with these seeds
abbrev pub seeded : Parts → List Key → Stream
seeded setup seeds = record { setup = setup; seeds = seeds }

-- the stream is that of the setup with the seeds that are judged, which give the keys of the setup
abbrev pub IsSeeded : Parts → Result (List Key) (ℕ × SeedsKind) → Stream → Type 0
IsSeeded setup (Ok seeds) stream = (stream ≡ seeded setup seeds) × (first_wrong (chains_of (seeded setup seeds)) ≡ None)
IsSeeded setup (Err refusal) stream = ⊥

-- the stream is that which the texts spell: of the setup that is judged, with as many seeds as it has chains
abbrev pub IsSpelledBy : Result Parts (ℕ × SetupKind) → List ℕ → Stream → Type 0
IsSpelledBy (Ok setup) text stream = IsSeeded setup (seeds_judged (length setup.rows) text) stream
IsSpelledBy (Err refusal) text stream = ⊥

-- what was opened is a sender of the stream that the texts spell, which has accepted nothing
abbrev pub IsOpenedSender : Result Parts (ℕ × SetupKind) → List ℕ → Engine → Type 0
IsOpenedSender setup text (Receiving state) = ⊥
IsOpenedSender setup text (Sending state) = IsSpelledBy setup text state.stream × Stands state []
IsOpenedSender setup text (Following state) = ⊥

-- a slot holds it
abbrev pub HasOpenedSender : Result Parts (ℕ × SetupKind) → List ℕ → Option Engine → Type 0
HasOpenedSender setup text None = ⊥
HasOpenedSender setup text (Some engine) = IsOpenedSender setup text engine

-- the first seed that doesn't give the key of the setup is told: that of chain 0 has the second line
abbrev pub IsWrongSeed : Option Chain → CSenderRefusal → Type 0
IsWrongSeed None told = ⊥
IsWrongSeed (Some chain) told = told ≡ record { text = 2; line = chain.number + 2; kind = 32; chain = chain.number }

-- why seeds are refused is told: by their text, or since one is wrong
abbrev pub AreSeedsRefused : Parts → Result (List Key) (ℕ × SeedsKind) → CSenderRefusal → Type 0
AreSeedsRefused setup (Ok seeds) told = IsWrongSeed (first_wrong (chains_of (seeded setup seeds))) told
AreSeedsRefused setup (Err refusal) told = told ≡ record { text = 2; line = refusal.0; kind = seeds_code refusal.1; chain = 0 }

-- why the texts are refused is told: that of the setup comes first
abbrev pub IsSenderRefused : Result Parts (ℕ × SetupKind) → List ℕ → CSenderRefusal → Type 0
IsSenderRefused (Ok setup) text told = AreSeedsRefused setup (seeds_judged (length setup.rows) text) told
IsSenderRefused (Err refusal) text told = told ≡ record { text = 1; line = refusal.0; kind = kind_code refusal.1; chain = 0 }

-- memory was wanting for a setup that is judged
abbrev pub IsWantingFor : Result Parts (ℕ × SetupKind) → Type 0
IsWantingFor (Ok setup) = Unit {0}
IsWantingFor (Err refusal) = ⊥

-- why nothing was opened: the texts are refused, or memory was wanting
abbrev pub IsUnopened : Result Parts (ℕ × SetupKind) → List ℕ → Unopened → Type 0
IsUnopened setup text (unopened.Refused told) = IsSenderRefused setup text told
IsUnopened setup text unopened.NoMemory = IsWantingFor setup

-- the same of the seeds of a setup
abbrev pub AreUnopened : Parts → Result (List Key) (ℕ × SeedsKind) → Unopened → Type 0
AreUnopened setup seeds (unopened.Refused told) = AreSeedsRefused setup seeds told
AreUnopened setup seeds unopened.NoMemory = Unit {0}
