-- The messages of a history that were accepted on arrival, and how many.
use Rattle.std.specs.Prelude.{ℕ, List, [], ◌∷◌, length, cond}
use Rattle.tesla_receiver.specs.Entries.{Arrival, Entry}
use Rattle.tesla_receiver.specs.declared.history.Entry.TheVariants.{Arrived, Taken, Ended}
use Rattle.tesla_state.specs.Releases.{each_after}
use Rattle.tesla_early.specs.Early.{is_early}

-- the arrivals among an entry that are early behind a history
abbrev pub early_in : ℕ → List Entry → Entry → List Arrival
early_in most history (Arrived arrival) = cond (is_early most history arrival) (arrival ∷ []) []
early_in most history (Taken releaser reply) = []
early_in most history (Ended ingest) = []

-- the early arrivals of a history, in order
abbrev pub early_arrivals : ℕ → List Entry → List Arrival
early_arrivals most history = each_after (early_in most) [] history

-- how many there are
abbrev pub early_count : ℕ → List Entry → ℕ
early_count most history = length (early_arrivals most history)
