-- The history of a feed's epochs, and in it that of each epoch's receiver.
use Rattle.std.specs.Prelude.{ℕ, suc, Bool, true, false, ◌&&◌, List, [], ◌∷◌, ◌++◌, length, map, filter, Option, Some, None, slice_get, get_or, nat_lt, ◌==◌, if◌then◌else◌, count_by, flat_map}
use Rattle.std.specs.List.{list_any, range_with_len}
use Rattle.tesla_commit.specs.Parts.{Parts}
use Rattle.tesla_fitting.specs.declared.config.Config.{Config}
use Rattle.tesla_receiver.specs.History.{Event, Arrives, Takes, Ends}
use Rattle.tesla_receiver.specs.Entries.{Arrival, Entry}
use Rattle.tesla_receiver.specs.declared.history.Entry.TheVariants.{Arrived, Taken, Ended}
use Rattle.tesla_state.specs.Releases.{each_after}
use Rattle.tesla_state.specs.declared.replies.Reply.{Reply}
use Rattle.tesla_state.specs.declared.replies.Reply.TheVariants.{Given, Empty, Over}
use Rattle.tesla_rollover.specs.Handover.{setup_in}
use Rattle.tesla_rollover.specs.declared.answers.Next.{Next}
use Rattle.tesla_rollover.specs.declared.answers.Next.TheVariants.{Plain, Old, EpochsSpent, BadSetup, UsedStream, NoMemory, Opened}

-- a call with its answers
pub data RollEntry : Type 0 where
  -- an arrival, with the epoch that it went to
  RollArrived : (epoch : ℕ) (arrival : Arrival) → RollEntry
  -- a take, with the answers of the epochs that were asked, from the first on, and what was done with the payload that the last of them gave, if it gave one
  RollTaken : (releaser : ℕ) (answers : List Reply) (next : Option Next) → RollEntry
  -- the end of an ingest, in every epoch that is open
  RollEnded : (ingest : ℕ) → RollEntry

-- the event of an entry, without its answers
abbrev pub roll_event_of : RollEntry → Event
roll_event_of (RollArrived epoch arrival) = Arrives arrival.ingest arrival.reading arrival.bytes
roll_event_of (RollTaken releaser answers next) = Takes releaser
roll_event_of (RollEnded ingest) = Ends ingest

-- ---- which epochs there are

abbrev pub opens : Option Next → Bool
opens (Some Opened) = true
opens (Some Plain) = false
opens (Some (Old newest)) = false
opens (Some EpochsSpent) = false
opens (Some (BadSetup line kind)) = false
opens (Some (UsedStream stream)) = false
opens (Some NoMemory) = false
opens None = false

abbrev pub setup_given : Reply → List Parts
setup_given (Given head payload) = setup_in payload
setup_given Empty = []
setup_given Over = []

-- the setup of the epoch that an entry opened, if it did: the one that the packet which was given hands over to
abbrev pub setup_opened : RollEntry → List Parts
setup_opened (RollArrived epoch arrival) = []
setup_opened (RollTaken releaser answers next) = if opens next then flat_map setup_given answers else []
setup_opened (RollEnded ingest) = []

-- the setups of the epochs after the first, in order
abbrev pub setups_opened : List RollEntry → List Parts
setups_opened history = flat_map setup_opened history

-- how many epochs there are: the first, and one for each that was opened
abbrev pub epoch_count : List RollEntry → ℕ
epoch_count history = suc (length (setups_opened history))

-- an epoch's configuration is that of the first with its own setup
abbrev pub config_with : Config → Parts → Config
config_with cfg setup = record { setup = setup; lag = cfg.lag; capacity = cfg.capacity; quota = cfg.quota; ingests = cfg.ingests }

abbrev pub configs_in : Config → List RollEntry → List Config
configs_in cfg history = cfg ∷ map (config_with cfg) (setups_opened history)

abbrev pub config_at : Config → List RollEntry → ℕ → Config
config_at cfg history epoch = get_or (configs_in cfg history) epoch cfg

-- ---- the history of an epoch's receiver

abbrev pub roll_ends : ℕ → RollEntry → Bool
roll_ends ingest (RollArrived epoch arrival) = false
roll_ends ingest (RollTaken releaser answers next) = false
roll_ends ingest (RollEnded other) = other == ingest

abbrev pub has_roll_end : List RollEntry → ℕ → Bool
has_roll_end history ingest = list_any (roll_ends ingest) history

-- the ends that an epoch begins with: one for each ingest that has ended, in the order of the ingests
abbrev pub ends_before : ℕ → List RollEntry → List Entry
ends_before ingests history = map (λ (ingest : ℕ). Ended ingest) (filter (has_roll_end history) (range_with_len 0 ingests))

abbrev pub taken_on : ℕ → Option Reply → List Entry
taken_on releaser None = []
taken_on releaser (Some reply) = Taken releaser reply ∷ []

-- what an entry is in the history of an epoch's receiver, behind the entries before it
abbrev pub entries_on : ℕ → ℕ → List RollEntry → RollEntry → List Entry
entries_on ingests epoch before (RollArrived other arrival) = if other == epoch then Arrived arrival ∷ [] else []
entries_on ingests epoch before (RollTaken releaser answers next) =
    taken_on releaser (slice_get answers epoch) ++ (if opens next && epoch == epoch_count before then ends_before ingests before else [])
entries_on ingests epoch before (RollEnded ingest) = if nat_lt epoch (epoch_count before) then Ended ingest ∷ [] else []

-- the history of an epoch's receiver
unfoldable pub history_at : ℕ → List RollEntry → ℕ → List Entry
history_at ingests history epoch = each_after (entries_on ingests epoch) [] history

-- ---- how many packets were given

abbrev pub roll_gives : RollEntry → Bool
roll_gives (RollArrived epoch arrival) = false
roll_gives (RollTaken releaser answers (Some next)) = true
roll_gives (RollTaken releaser answers None) = false
roll_gives (RollEnded ingest) = false

abbrev pub roll_given_in : List RollEntry → ℕ
roll_given_in history = count_by roll_gives history
