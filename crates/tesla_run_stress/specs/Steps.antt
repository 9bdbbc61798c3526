-- What a sender and a receiver stand for while a load is played.
use Rattle.std.specs.Prelude.{◌≡◌, ℕ, zero, suc, ◌+◌, ◌/◌, ◌%◌, ◌≤◌, List, [], ◌∷◌, ◌++◌, map}
use Rattle.circular_buffer.specs.Buffer.{Buffer, keep_last}
use Rattle.tesla_capture.specs.Capture.{Record}
use Rattle.tesla_fitting.specs.declared.config.Config.{Config}
use Rattle.tesla_replay.specs.Played.{event_in}
use Rattle.tesla_receiver.specs.Events.{after_events}
use Rattle.tesla_receiver.specs.Stands.{Stands}
use Rattle.tesla_sender.specs.Made.{Stream}
use Rattle.tesla_sender.specs.Stands as senders
use Rattle.tesla_state.specs.State.{State}
use Rattle.tesla_run_stress.specs.Base.{base_stream}
use Rattle.tesla_run_stress.specs.Load.{log_of, message_text}

-- the frames of the first n messages
unfoldable pub texts_to : Stream → ℕ → List (List ℕ)
texts_to stream zero = []
texts_to stream (suc n) = texts_to stream n ++ message_text stream n ∷ []

-- the sender of so many messages has accepted the first n, and at most ten in the interval of the last one
pub record HasSent (count n : ℕ) (sender : senders.State) : Type 0 where
  pub stream : sender.stream ≡ base_stream count
  pub stands : senders.Stands sender (log_of n)
  pub latest : sender.latest ≡ (n + 9) / 10
  pub used : sender.used ≤ 1 + (n + 9) % 10

-- of the frames of the first n messages the last 30 are kept
pub record Keeps (count n : ℕ) (kept : Buffer (List ℕ)) : Type 0 where
  pub room : kept.capacity ≡ 30
  pub texts : kept.items ≡ keep_last 30 (texts_to (base_stream count) n)

-- these records, and no others, were played to the receiver
pub record HasPlayed (cfg : Config) (records : List Record) (receiver : State) : Type 0 where
  pub config : receiver.config ≡ cfg
  pub stands : Stands receiver (after_events cfg [] (map event_in records))
