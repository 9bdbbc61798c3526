-- The one answer to each call, and legal histories of epochs.
use Rattle.std.specs.Prelude.{◌≡◌, ℕ, suc, ◌-◌, Bool, not, List, [], ◌∷◌, ◌++◌, length, map, Option, Some, None, unwrap_or, option_map, Result, Ok, Err, ◌==◌, if◌then◌else◌}
use Rattle.std.specs.List.{list_any, range_with_len, position}
use Rattle.tesla_base.specs.declared.names.StreamId.{StreamId}
use Rattle.tesla_commit.specs.Parsing.{judged}
use Rattle.tesla_commit.specs.Parts.{Parts}
use Rattle.tesla_commit.specs.declared.refusal.SetupKind.{SetupKind}
use Rattle.tesla_fitting.specs.Fitting.{stream_of}
use Rattle.tesla_fitting.specs.declared.config.Config.{Config}
use Rattle.tesla_frame.specs.Frame.{Frame}
use Rattle.tesla_frame.specs.Reading.{frame_of}
use Rattle.tesla_receiver.specs.Answer.{verdict_of}
use Rattle.tesla_receiver.specs.History.{Event, Arrives, Takes, Ends, arrivals_in, given_in, reply_to}
use Rattle.tesla_receiver.specs.Entries.{Arrival, Entry}
use Rattle.tesla_state.specs.declared.replies.Reply.{Reply}
use Rattle.tesla_state.specs.declared.replies.Reply.TheVariants.{Given, Empty, Over}
use Rattle.tesla_rollover.specs.Handover.{handover_text}
use Rattle.tesla_rollover.specs.History.{RollEntry, RollArrived, RollTaken, RollEnded, roll_event_of, config_at, configs_in, epoch_count, history_at}
use Rattle.tesla_rollover.specs.declared.answers.Next.{Next}
use Rattle.tesla_rollover.specs.declared.answers.Next.TheVariants.{Plain, Old, EpochsSpent, BadSetup, UsedStream, NoMemory, Opened}

-- how many epochs there are at most
abbrev pub most_epochs : ℕ
most_epochs = 16

-- ---- an arrival

abbrev pub has_stream : StreamId → Config → Bool
has_stream stream cfg = cfg.setup.stream.0 == stream.0

abbrev pub epoch_with : List Config → Option Frame → ℕ
epoch_with configs None = 0
epoch_with configs (Some frame) = unwrap_or (position (has_stream (stream_of frame)) configs) 0

-- the epoch that a datagram goes to: that of its frame's stream, and the first where there is none or it isn't a frame
abbrev pub epoch_for : Config → List RollEntry → List ℕ → ℕ
epoch_for cfg history bytes = epoch_with (configs_in cfg history) (frame_of bytes)

-- the verdict is that of the epoch's receiver
abbrev pub arrival_at : Config → List Entry → ℕ → ℕ → List ℕ → Arrival
arrival_at cfg history ingest reading bytes =
    record { ingest = ingest; reading = reading; bytes = bytes; verdict = verdict_of cfg (arrivals_in history) (given_in history) ingest reading bytes }

abbrev pub arrived_at : Config → List RollEntry → ℕ → ℕ → ℕ → List ℕ → RollEntry
arrived_at cfg history epoch ingest reading bytes =
    RollArrived epoch (arrival_at (config_at cfg history epoch) (history_at cfg.ingests history epoch) ingest reading bytes)

-- ---- a take

-- the answer of an epoch's receiver to a take
abbrev pub reply_at : Config → List RollEntry → ℕ → Reply
reply_at cfg history epoch = reply_to (config_at cfg history epoch) (history_at cfg.ingests history epoch)

-- the answers up to the first that gives a packet, with it
abbrev pub up_to_given : List Reply → List Reply
up_to_given [] = []
up_to_given (Given head payload ∷ replies) = Given head payload ∷ []
up_to_given (Empty ∷ replies) = Empty ∷ up_to_given replies
up_to_given (Over ∷ replies) = Over ∷ up_to_given replies

-- the answers of the epochs that a take asks: in order, up to the first that gives a packet
abbrev pub answers_in : Config → List RollEntry → List Reply
answers_in cfg history = up_to_given (map (reply_at cfg history) (range_with_len 0 (epoch_count history)))

-- the payload that the last answer gives
abbrev pub payload_given : List Reply → Option (List ℕ)
payload_given [] = None
payload_given (Given head payload ∷ replies) = Some payload
payload_given (Empty ∷ replies) = payload_given replies
payload_given (Over ∷ replies) = payload_given replies

-- what a text of a setup comes to, while these epochs are open: a text that is none and a stream that has an epoch are told whatever memory there is
abbrev pub next_judged : List Config → Bool → Result Parts (ℕ × SetupKind) → Next
next_judged configs enough (Err refused) = BadSetup refused.0 refused.1
next_judged configs enough (Ok setup) =
    if list_any (has_stream setup.stream) configs then UsedStream setup.stream
    else (if enough then Opened else NoMemory)

-- what a packet of an epoch comes to, told whether there is memory for a further epoch: a payload that isn't a handover is plain; only the newest epoch hands over, to at most sixteen in all, by a text that spells a setup, to a stream of its own
abbrev pub next_spelled : List Config → ℕ → Bool → Option (List ℕ) → Next
next_spelled configs epoch enough None = Plain
next_spelled configs epoch enough (Some text) =
    if not (suc epoch == length configs) then Old (length configs - 1)
    else (if length configs == most_epochs then EpochsSpent
    else next_judged configs enough (judged text))

abbrev pub next_of : List Config → ℕ → Bool → List ℕ → Next
next_of configs epoch enough payload = next_spelled configs epoch enough (handover_text payload)

-- the take with these answers, of which the last may have given a packet
abbrev pub taken_with : List Config → Bool → ℕ → List Reply → RollEntry
taken_with configs enough releaser answers =
    RollTaken releaser answers (option_map (next_of configs (length answers - 1) enough) (payload_given answers))

-- ---- any call

-- the entry of an event after a history: the event with its answers, told whether there is memory for a further epoch
abbrev pub roll_entry_of : Config → List RollEntry → Bool → Event → RollEntry
roll_entry_of cfg history enough (Arrives ingest reading bytes) = arrived_at cfg history (epoch_for cfg history bytes) ingest reading bytes
roll_entry_of cfg history enough (Takes releaser) = taken_with (configs_in cfg history) enough releaser (answers_in cfg history)
roll_entry_of cfg history enough (Ends ingest) = RollEnded ingest

-- every answer is the one answer after the entries before it, but for want of memory, which is free
abbrev pub IsRollLegalAfter : Config → List RollEntry → List RollEntry → Type 0
IsRollLegalAfter cfg before [] = Unit {0}
IsRollLegalAfter cfg before (entry ∷ entries) =
    ((enough : Bool) × (entry ≡ roll_entry_of cfg before enough (roll_event_of entry))) × IsRollLegalAfter cfg (before ++ entry ∷ []) entries

-- a history of epochs is legal
abbrev pub IsRollLegal : Config → List RollEntry → Type 0
IsRollLegal cfg history = IsRollLegalAfter cfg [] history
