-- What a take of several epochs answers, with the bytes that it fills in.
use Rattle.std.specs.Prelude.{◌≡◌, ◌≤◌, ℕ, ◌+◌, Bool, true, false, List, [], ◌∷◌, ◌++◌, take, drop, Option, Some, None, if◌then◌else◌}
use Rattle.std.specs.List.{list_all}
use Rattle.tesla_base.specs.declared.release.Head.{Head}
use Rattle.tesla_state.specs.declared.replies.Reply.{Reply}
use Rattle.tesla_state.specs.declared.replies.Reply.TheVariants as replies
use Rattle.tesla_rollover.specs.History.{RollEntry, RollArrived, RollTaken, RollEnded}
use Rattle.tesla_rollover.specs.declared.answers.Next.{Next}
use Rattle.tesla_rollover.specs.declared.answers.Next.TheVariants as nexts
use Rattle.tesla_rollover.specs.declared.answers.RollTake.{RollTake}
use Rattle.tesla_rollover.specs.declared.answers.RollTake.TheVariants.{Given, Empty, Over}

-- an answer to a take, with the payload that it gives
pub data RollReply : Type 0 where
  Gives : (epoch : ℕ) (head : Head) (payload : List ℕ) (next : Next) → RollReply
  -- no epoch gave a packet
  IsEmpty : RollReply
  -- no epoch gave a packet, and every one is over
  IsOver : RollReply

-- the payload stands at the start of the bytes
abbrev pub roll_shown : RollTake → List ℕ → RollReply
roll_shown (Given epoch head next) into = Gives epoch head (take head.length into) next
roll_shown Empty into = IsEmpty
roll_shown Over into = IsOver

abbrev pub is_over : Reply → Bool
is_over (replies.Given head payload) = false
is_over replies.Empty = false
is_over replies.Over = true

-- the last answer gives the packet, and its number is the epoch
abbrev pub reply_from : ℕ → List Reply → Next → RollReply
reply_from epoch [] next = IsEmpty
reply_from epoch (replies.Given head payload ∷ others) next = Gives epoch head payload next
reply_from epoch (replies.Empty ∷ others) next = reply_from (epoch + 1) others next
reply_from epoch (replies.Over ∷ others) next = reply_from (epoch + 1) others next

-- the answer to a take, told those of the epochs
abbrev pub reply_with : List Reply → Option Next → RollReply
reply_with answers (Some next) = reply_from 0 answers next
reply_with answers None = if list_all is_over answers then IsOver else IsEmpty

-- the answer in an entry
abbrev pub reply_in : RollEntry → RollReply
reply_in (RollTaken releaser answers next) = reply_with answers next
reply_in (RollArrived epoch arrival) = IsEmpty
reply_in (RollEnded ingest) = IsEmpty

abbrev pub had_memory : Next → Bool
had_memory nexts.NoMemory = false
had_memory nexts.Plain = true
had_memory (nexts.Old newest) = true
had_memory nexts.EpochsSpent = true
had_memory (nexts.BadSetup line kind) = true
had_memory (nexts.UsedStream stream) = true
had_memory nexts.Opened = true

-- no opening of an epoch was refused for want of memory
abbrev pub has_memory : RollTake → Bool
has_memory (Given epoch head next) = had_memory next
has_memory Empty = true
has_memory Over = true

-- a packet's payload fits the bytes, and those behind it are as they were; without a packet all are
abbrev pub RollKeepsBehind : RollTake → List ℕ → List ℕ → Type 0
RollKeepsBehind (Given epoch head next) old new = (head.length ≤ 1200) × (drop head.length new ≡ drop head.length old)
RollKeepsBehind Empty old new = new ≡ old
RollKeepsBehind Over old new = new ≡ old

-- what a packet's payload came to took memory: for the receiver of an epoch that was opened, and for nothing else
abbrev pub TakesRoom : Next → List ℕ → List ℕ → Type 0
TakesRoom nexts.Opened old new = (room : ℕ) × (new ≡ old ++ room ∷ [])
TakesRoom nexts.Plain old new = new ≡ old
TakesRoom (nexts.Old newest) old new = new ≡ old
TakesRoom nexts.EpochsSpent old new = new ≡ old
TakesRoom (nexts.BadSetup line kind) old new = new ≡ old
TakesRoom (nexts.UsedStream stream) old new = new ≡ old
TakesRoom nexts.NoMemory old new = new ≡ old

-- what a take took of memory
abbrev pub RollTakesRoom : RollTake → List ℕ → List ℕ → Type 0
RollTakesRoom (Given epoch head next) old new = TakesRoom next old new
RollTakesRoom Empty old new = new ≡ old
RollTakesRoom Over old new = new ≡ old
