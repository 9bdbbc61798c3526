-- The later streams' senders, while they are handed to the feed.
use Rattle.std.specs.Prelude.{◌≡◌, ℕ, ◌+◌, ◌==◌, Bool, ◌&&◌, List, ◌∷◌, drop}
use Rattle.tesla_sender.specs.Made.{Stream}
use Rattle.tesla_sender.specs.Stands.{State}

abbrev pub stream_of : State → Stream
stream_of sender = sender.stream

-- it has accepted no call
abbrev pub is_unused : State → Bool
is_unused sender = (sender.latest == 0) && (sender.used == 0)

-- the stream at this place of a list is this one
abbrev pub IsAt : List Stream → ℕ → Stream → Type 0
IsAt streams place stream = drop place streams ≡ stream ∷ drop (place + 1) streams
