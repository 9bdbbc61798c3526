-- What the inner calls see of open epochs and of messages that wait. Also what comes of them.
use Rattle.std.specs.Prelude.{◌≡◌, ◌≤◌, ◌<◌, ◌^◌, ℕ, ◌+◌, ◌*◌, ◌==◌, Bool, true, false, List, [], ◌∷◌, ◌++◌, length, map, filter, take, drop, get_or, Option, Some, None, count_by, sum_by}
use Rattle.std.specs.List.{AllByRecursion, fold, range_with_len}
use Rattle.tesla_base.specs.declared.names.StreamId.{StreamId}
use Rattle.tesla_early.specs.Early.{Message}
use Rattle.tesla_early.specs.Kept.{kept_after}
use Rattle.tesla_early.specs.Stands.{Kept}
use Rattle.tesla_fitting.specs.declared.config.Config.{Config}
use Rattle.tesla_receiver.specs.Entries.{Entry}
use Rattle.tesla_receiver.specs.declared.history.Entry.TheVariants.{Ended}
use Rattle.tesla_receiver.specs.Events.{waiting_in}
use Rattle.tesla_receiver.specs.History.{reply_to}
use Rattle.tesla_receiver.specs.Report.{report_of}
use Rattle.tesla_rollover.specs.History.{config_with}
use Rattle.tesla_rollover.specs.Kept.{AskedReply, Gives, IsEmpty, IsOver}
use Rattle.tesla_state.specs.declared.replies.Reply.{Reply}
use Rattle.tesla_state.specs.declared.report.Report.{Report}
use Rattle.tesla_follow.specs.declared.answers.Acceptance.{Acceptance}
use Rattle.tesla_follow.specs.declared.answers.Acceptance.TheVariants.{Unpromised, Queued, Unqueued}
use Rattle.tesla_follow.specs.declared.asking.Asked.{Asked}
use Rattle.tesla_follow.specs.declared.asking.Asked.TheVariants as asked
use Rattle.tesla_follow.specs.declared.queue.Popped.{Popped}
use Rattle.tesla_follow.specs.Counted.{added}
use Rattle.tesla_follow.specs.Followed.{Accepted, FollowedEpoch, most_promises, no_epoch, queued_of}
use Rattle.tesla_follow.specs.Stands.{EpochStands, EpochState}

-- ---- an open epoch

abbrev pub config_in : EpochState → Config
config_in state = state.receiver.config

abbrev pub configs_of : List EpochState → List Config
configs_of states = map config_in states

-- for how many entries the tables of an epoch have room
abbrev pub room_of : EpochState → ℕ
room_of state = state.receiver.reserved + state.promises.reserved

abbrev pub rooms_of : List EpochState → ℕ
rooms_of states = sum_by room_of states

-- what no call of an open epoch changes
pub record Shape : Type 0 where
  pub config : Config
  pub most : ℕ
  pub room : ℕ

abbrev pub shape_of : EpochState → Shape
shape_of state = record { config = state.receiver.config; most = state.promises.most; room = room_of state }

abbrev pub shapes_of : List EpochState → List Shape
shapes_of states = map shape_of states

-- an epoch's receiver has had so many calls at most
abbrev pub IsCalled : ℕ → EpochState → Type 0
IsCalled most state = state.receiver.calls ≤ most

-- an epoch has the configuration of the first with a setup of its own, and as many places for promises
abbrev pub IsAlike : Config → EpochState → Type 0
IsAlike cfg state = (state.receiver.config ≡ config_with cfg state.receiver.config.setup) × (state.promises.most ≡ most_promises)

-- nothing has happened in an epoch of this configuration
abbrev pub IsNew : Config → EpochState → Type 0
IsNew cfg state = (state.receiver.config ≡ cfg) × EpochStands state (no_epoch cfg)

-- the promises that are kept after an arrival of this message
abbrev pub kept_by : Acceptance → ℕ → List Kept → Option Message → List Kept
kept_by Unpromised most kept message = kept
kept_by Queued most kept message = kept_after most kept message
kept_by Unqueued most kept message = kept

-- how many of these flags are set
abbrev pub set_count : List Bool → ℕ
set_count flags = count_by (λ (flag : Bool). flag) flags

-- the ends of the ingests whose flags are set, in order
abbrev pub ends_of : ℕ → List Bool → List Entry
ends_of n flags = map (λ (ingest : ℕ). Ended ingest) (filter (λ (ingest : ℕ). get_or flags ingest false) (range_with_len 0 n))

-- a history with the end of an ingest more, if its flag is set
abbrev pub ends_if : Bool → ℕ → List Entry → List Entry
ends_if true ingest history = history ++ Ended ingest ∷ []
ends_if false ingest history = history

-- ---- messages that wait

-- what a contract sees of the messages that were accepted and wait: how many may, and those that do, in order
pub record Waits : Type 0 where
  pub capacity : ℕ
  pub waiting : List Accepted

-- the message that was let go, whose payload stands at the start of the bytes
abbrev pub popped_shown : Option Popped → List ℕ → Option Accepted
popped_shown None into = None
popped_shown (Some popped) into = Some (record { epoch = popped.epoch; message = record { name = popped.name; payload = take popped.length into } })

-- its payload fits the bytes, and those behind it are as they were; without a message all are
abbrev pub PoppedKeepsBehind : Option Popped → List ℕ → List ℕ → Type 0
PoppedKeepsBehind (Some popped) old new = (popped.length ≤ 1200) × (drop popped.length new ≡ drop popped.length old)
PoppedKeepsBehind None old new = new ≡ old

-- what an arrival with this message adds to those that wait
abbrev pub waits_by : ℕ → Acceptance → Option Message → List Accepted
waits_by epoch Unpromised message = []
waits_by epoch Queued message = queued_of epoch message
waits_by epoch Unqueued message = []

-- ---- streams

abbrev pub is_stream : StreamId → StreamId → Bool
is_stream stream other = other.0 == stream.0

-- ---- a take

-- the answer of an epoch to a take
abbrev pub reply_of : FollowedEpoch → Reply
reply_of epoch = reply_to epoch.config epoch.history

-- how many released packets wait in these epochs
abbrev pub waiting_of : List FollowedEpoch → ℕ
waiting_of epochs = sum_by (λ (epoch : FollowedEpoch). waiting_in epoch.config epoch.history) epochs

abbrev pub asked_shown : Asked → List ℕ → AskedReply
asked_shown (asked.Given epoch head) into = Gives epoch head (take head.length into)
asked_shown asked.Empty into = IsEmpty
asked_shown asked.Over into = IsOver

-- a packet's payload fits the bytes, and those behind it are as they were; without a packet all are
abbrev pub AskedKeepsBehind : Asked → List ℕ → List ℕ → Type 0
AskedKeepsBehind (asked.Given epoch head) old new = (head.length ≤ 1200) × (drop head.length new ≡ drop head.length old)
AskedKeepsBehind asked.Empty old new = new ≡ old
AskedKeepsBehind asked.Over old new = new ≡ old

-- ---- counts

-- the counts of these epochs, added to those
abbrev pub counts_with : Report → List FollowedEpoch → Report
counts_with so_far epochs = fold (λ report epoch. added report (report_of epoch.history)) so_far epochs

-- ---- all

-- for how many entries all tables have room: those of the epochs, of which some are spare, the tables of epochs, the places for messages and for 64 streams, and the flags of the ingests
abbrev pub reserved_in : List EpochState → List EpochState → ℕ → ℕ → ℕ → ℕ
reserved_in receiving spares tables places flags = rooms_of receiving + rooms_of spares + tables + places + 64 + flags

-- what is kept is within the limits; an epoch that is opened has an end for each flag that is set, so it has had no more calls than all
pub record IsFollowKept (cfg : Config) (receiving spares : List EpochState) (room spare_room opened : ℕ) (queue : Waits) (flags : List Bool) (records early unqueued dropped calls : ℕ) : Type 0 where
  pub some : 1 ≤ length receiving
  pub all : length receiving + length spares ≡ 3
  pub numbered : (length receiving ≤ opened) × (opened ≤ 2 ^ 32)
  pub rooms : (room ≡ 3) × (spare_room ≡ 3)
  pub alike : AllByRecursion (IsAlike cfg) receiving
  pub spare : AllByRecursion (IsAlike cfg) spares
  pub called : AllByRecursion (IsCalled calls) receiving
  pub places : queue.capacity ≡ cfg.capacity
  pub few_places : cfg.capacity ≤ 4096
  pub waiting : length queue.waiting ≤ queue.capacity
  pub ingests : cfg.ingests < 256
  pub flags_all : length flags ≡ cfg.ingests
  pub few_ends : set_count flags ≤ calls
  pub few_records : records ≤ calls
  pub few_early : early ≤ calls
  pub few_unqueued : unqueued ≤ calls
  pub few_dropped : dropped ≤ opened * 4294967295
  pub few : calls ≤ 2 ^ 63
