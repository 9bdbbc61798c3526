-- What the inner calls see of open epochs. Also what comes of them.
use Rattle.std.specs.Prelude.{◌≡◌, ◌≢◌, ◌≤◌, ◌<◌, ◌^◌, ℕ, ◌+◌, List, [], ◌∷◌, ◌++◌, length, map, filter, take, drop}
use Rattle.std.specs.List.{range_with_len, AllByRecursion}
use Rattle.tesla_base.specs.declared.release.Head.{Head}
use Rattle.tesla_commit.specs.Parts.{Parts}
use Rattle.tesla_fitting.specs.declared.config.Config.{Config}
use Rattle.tesla_receiver.specs.History.{has_end, reply_to}
use Rattle.tesla_receiver.specs.Events.{waiting_in}
use Rattle.tesla_receiver.specs.Stands.{Stands}
use Rattle.tesla_receiver.specs.Entries.{Entry}
use Rattle.tesla_receiver.specs.declared.history.Entry.TheVariants.{Taken, Ended}
use Rattle.tesla_state.specs.State.{State}
use Rattle.tesla_state.specs.declared.replies.Reply.{Reply}
use Rattle.tesla_state.specs.declared.replies.Reply.TheVariants as replies
use Rattle.tesla_rollover.specs.Epochs.{next_of}
use Rattle.tesla_rollover.specs.Handover.{setup_in}
use Rattle.tesla_rollover.specs.History.{config_with}
use Rattle.tesla_rollover.specs.Replies.{had_memory}
use Rattle.tesla_rollover.specs.Stands.{config_in, room_of}
use Rattle.tesla_rollover.specs.declared.answers.Next.{Next}
use Rattle.tesla_rollover.specs.declared.answers.Next.TheVariants.{Opened}
use Rattle.tesla_rollover.specs.declared.asking.Asked.{Asked}
use Rattle.tesla_rollover.specs.declared.asking.Asked.TheVariants as asked
use Rattle.tesla_rollover.specs.declared.epoch.Epoch.{Epoch}

abbrev pub receiver_of : Epoch → State
receiver_of epoch = epoch.receiver

abbrev pub receivers_of : List Epoch → List State
receivers_of epochs = map receiver_of epochs

abbrev pub rooms_of : List Epoch → List ℕ
rooms_of epochs = map room_of (receivers_of epochs)

abbrev pub configs_of : List Epoch → List Config
configs_of epochs = map config_in (receivers_of epochs)

-- an epoch's receiver has had so many calls at most
abbrev pub IsCalled : ℕ → Epoch → Type 0
IsCalled most epoch = epoch.receiver.calls ≤ most

-- an epoch's receiver has so many ingests
abbrev pub HasIngests : ℕ → Epoch → Type 0
HasIngests ingests epoch = epoch.receiver.config.ingests ≡ ingests

-- ---- a take

-- the answers of receivers that stand for these histories
abbrev pub replies_of : List State → List (List Entry) → List Reply
replies_of [] histories = []
replies_of (state ∷ states) [] = []
replies_of (state ∷ states) (history ∷ histories) = reply_to state.config history ∷ replies_of states histories

-- the histories after a take with these answers, from the first on
abbrev pub with_takes : ℕ → List Reply → List (List Entry) → List (List Entry)
with_takes releaser [] histories = histories
with_takes releaser (reply ∷ replies) [] = []
with_takes releaser (reply ∷ replies) (history ∷ histories) = (history ++ Taken releaser reply ∷ []) ∷ with_takes releaser replies histories

-- what epochs came to that were asked, with the payload that was given
pub data AskedReply : Type 0 where
  Gives : (epoch : ℕ) (head : Head) (payload : List ℕ) → AskedReply
  IsEmpty : AskedReply
  IsOver : AskedReply

abbrev pub asked_shown : Asked → List ℕ → AskedReply
asked_shown (asked.Given epoch head) into = Gives epoch head (take head.length into)
asked_shown asked.Empty into = IsEmpty
asked_shown asked.Over into = IsOver

-- empty, unless a packet was given
abbrev pub not_over : AskedReply → AskedReply
not_over (Gives epoch head payload) = Gives epoch head payload
not_over IsEmpty = IsEmpty
not_over IsOver = IsEmpty

-- what these answers come to, where the first is of the epoch of that number
abbrev pub asked_from : ℕ → List Reply → AskedReply
asked_from epoch [] = IsOver
asked_from epoch (replies.Given head payload ∷ others) = Gives epoch head payload
asked_from epoch (replies.Empty ∷ others) = not_over (asked_from (epoch + 1) others)
asked_from epoch (replies.Over ∷ others) = asked_from (epoch + 1) others

-- a packet's payload fits the bytes, and those behind it are as they were; without a packet all are
abbrev pub AskedKeepsBehind : Asked → List ℕ → List ℕ → Type 0
AskedKeepsBehind (asked.Given epoch head) old new = (head.length ≤ 1200) × (drop head.length new ≡ drop head.length old)
AskedKeepsBehind asked.Empty old new = new ≡ old
AskedKeepsBehind asked.Over old new = new ≡ old

-- how many packets wait in receivers that stand for these histories
abbrev pub waiting_of : List State → List (List Entry) → ℕ
waiting_of [] histories = 0
waiting_of (state ∷ states) [] = 0
waiting_of (state ∷ states) (history ∷ histories) = waiting_in state.config history + waiting_of states histories

-- ---- an end

abbrev pub with_end : ℕ → List Entry → List Entry
with_end ingest history = history ++ Ended ingest ∷ []

-- ---- an opening

-- the ends of the ingests below that have ended in a history, in order
abbrev pub ends_in : ℕ → List Entry → List Entry
ends_in ingests history = map (λ (ingest : ℕ). Ended ingest) (filter (has_end history) (range_with_len 0 ingests))

-- a further epoch was opened, of this setup; in it the ends are made of the ingests that have ended in the first
pub record OpensEpoch (cfg : Config) (first : State) (setup : Parts) (epoch : Epoch) : Type 0 where
  pub config : epoch.receiver.config ≡ config_with cfg setup
  pub stands : (history : List Entry) → Stands first history → Stands epoch.receiver (ends_in cfg.ingests history)
  pub few : epoch.receiver.calls ≤ cfg.ingests

-- a packet's payload opened a further epoch, or left all as it was
pub record HandsOver (cfg : Config) (first : State) (number : ℕ) (payload : List ℕ) (old new : List Epoch) (next : Next) : Type 0 where
  pub next_is : next ≡ next_of (configs_of old) number (had_memory next) payload
  pub opened : next ≡ Opened → (setup : Parts) × (epoch : Epoch) × (setup_in payload ≡ setup ∷ []) × (new ≡ old ++ epoch ∷ []) × OpensEpoch cfg first setup epoch
  pub kept : next ≢ Opened → new ≡ old

-- ---- all

-- what is kept is within the limits
pub record IsRollKept (cfg : Config) (epochs : List Epoch) (room given calls : ℕ) : Type 0 where
  pub some : 1 ≤ length epochs
  pub most : length epochs ≤ 16
  pub reserved : room ≡ 16
  pub same : AllByRecursion (HasIngests cfg.ingests) epochs
  pub called : AllByRecursion (IsCalled (calls + 256)) epochs
  pub capacity : (1 ≤ cfg.capacity) × (cfg.capacity ≤ 4096)
  pub quota : cfg.quota ≡ cfg.capacity
  pub few_given : given ≤ calls
  pub few : calls ≤ 2 ^ 56
  pub ingests : (1 ≤ cfg.ingests) × (cfg.ingests < 256)
