-- Worlds: what was sent and what came, in order, with the clocks' readings (RFC 4082, sections 3.3 and 3.5).
use Rattle.std.specs.Prelude.{◌≡◌, ℕ, ◌<◌, ℤ, pos, ◌≤ℤ◌, ◌+ℤ◌, List, [], ◌∷◌, ◌++◌, length, map, take, Some, slice_get, flat_map}
use Rattle.tesla_base.specs.declared.names.Key.{Key}
use Rattle.tesla_fitting.specs.declared.config.Config.{Config}
use Rattle.tesla_frame.specs.Frame.{Frame, IsFrame}
use Rattle.tesla_receiver.specs.History.{IsLegal, arrivals_in}
use Rattle.tesla_receiver.specs.Entries.{Arrival, Entry}
use Rattle.tesla_sender.specs.Made.{Call, Stream, frame_made, reading_of}

-- a frame was sent at this reading of the sender's clock, or a datagram came at this reading of the receiver's
pub data Moment : Type 0 where
  Sent : (reading : ℕ) (bytes : List ℕ) → Moment
  Received : (reading : ℕ) (bytes : List ℕ) → Moment

-- a reading, and the bytes that were sent or came at it
pub record Dated : Type 0 where
  pub reading : ℕ
  pub bytes : List ℕ

abbrev pub sent_at : Moment → List Dated
sent_at (Sent reading bytes) = record { reading = reading; bytes = bytes } ∷ []
sent_at (Received reading bytes) = []

abbrev pub received_at : Moment → List Dated
received_at (Sent reading bytes) = []
received_at (Received reading bytes) = record { reading = reading; bytes = bytes } ∷ []

-- what was sent in a world, in order
abbrev pub sent_in : List Moment → List Dated
sent_in world = flat_map sent_at world

-- what came in a world, in order
abbrev pub received_in : List Moment → List Dated
received_in world = flat_map received_at world

-- the clock bound holds: what was sent before a datagram came was sent, by the sender's clock, at most the lag after the receiver's reading
abbrev pub IsBounded : ℤ → List Moment → Type 0
IsBounded lag world =
    (i j sent received : ℕ) (text bytes : List ℕ) → i < j → slice_get world i ≡ Some (Sent sent text) → slice_get world j ≡ Some (Received received bytes) →
    pos sent ≤ℤ (pos received +ℤ lag)

-- ---- the sender's part

-- what was sent is the frame of the call, at its reading
pub record IsSentFor (stream : Stream) (log : List Call) (call : Call) (sent : Dated) : Type 0 where
  pub reading : sent.reading ≡ reading_of call
  pub frame : Frame
  pub made : frame_made stream log call ≡ Some frame
  pub spelled : IsFrame sent.bytes frame

-- what was sent are the frames of these calls, each after those before it
abbrev pub AreSentFor : Stream → List Call → List Call → List Dated → Type 0
AreSentFor stream log [] [] = Unit {0}
AreSentFor stream log [] (sent ∷ others) = ⊥
AreSentFor stream log (call ∷ calls) [] = ⊥
AreSentFor stream log (call ∷ calls) (sent ∷ others) = IsSentFor stream log call sent × AreSentFor stream (log ++ call ∷ []) calls others

-- ---- both

abbrev pub dated_of : Arrival → Dated
dated_of arrival = record { reading = arrival.reading; bytes = arrival.bytes }

-- the world is that of a sender with these seeds, which accepted the calls of the log, and of a receiver with this history
pub record Joined (cfg : Config) (seeds : List Key) (world : List Moment) (log : List Call) (history : List Entry) : Type 0 where
  -- a seed for each chain
  pub count : length seeds ≡ length cfg.setup.rows
  pub sent : AreSentFor (record { setup = cfg.setup; seeds = seeds }) [] log (sent_in world)
  pub legal : IsLegal cfg history
  pub received : received_in world ≡ map dated_of (arrivals_in history)

-- the number of the arrival that came at the moment j: how many came before
abbrev pub arrival_at : List Moment → ℕ → ℕ
arrival_at world j = length (received_in (take j world))
