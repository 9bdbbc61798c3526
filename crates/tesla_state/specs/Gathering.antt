-- Held packets that are tried interval by interval, from the newest down.
use Rattle.std.specs.Prelude.{ℕ, List, filter, flat_map}
use Rattle.tesla_walks.specs.Holding.{Holding}
use Rattle.tesla_state.specs.Steps.{in_interval}

abbrev pub order_of : Holding → ℕ
order_of item = item.order

-- what f gives for the packets of an interval, in order of arrival
abbrev pub in_turn : {A : Type 0} → (Holding → List A) → List Holding → ℕ → List A
in_turn f held interval = flat_map f (filter (in_interval interval) held)
