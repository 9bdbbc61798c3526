-- Workers each of which did its work, by their places and as lists.
use Rattle.std.proofs.Common.{◌≡◌, ◌<◌, ℕ, zero, suc, List, [], ◌∷◌, map, length, arith, slice_index_or}
use Rattle.tesla_turn.specs.Held.{TurnId}
use Rattle.tesla_shared.specs.Yields.{Yield}
use Rattle.tesla_session.specs.Session.{Seen, pass_of, AreOf, AreReady, IsReady, RunsWorker, RunWorkers}

module _ {C V R : Type 0} where
  module _ {X : Type 0} (seen : X → Seen C V R) where
    pub runs_each : (yields : R → Yield) (xs ys : List X) → length ys ≡ length xs → ((i : ℕ) (d : X) → i < length xs → RunsWorker yields (seen (slice_index_or xs i d)) (seen (slice_index_or ys i d))) → RunWorkers yields (map seen xs) (map seen ys)
    runs_each yields [] [] same each = tt
    runs_each yields [] (y ∷ ys) same each = absurd (omega arith)
    runs_each yields (x ∷ xs) [] same each = absurd (omega arith)
    runs_each yields (x ∷ xs) (y ∷ ys) same each = (each 0 x (omega arith), runs_each yields xs ys (omega arith) (λ i d inside. each (suc i) d (omega arith)))

    pub turn_at : (turn : TurnId) (xs : List X) (i : ℕ) (d : X) → i < length xs → AreOf turn (map seen xs) → (pass_of (seen (slice_index_or xs i d))).turn ≡ turn
    turn_at turn [] i d inside all = absurd (omega arith)
    turn_at turn (x ∷ xs) zero d inside all = all.0
    turn_at turn (x ∷ xs) (suc i) d inside all = turn_at turn xs i d (omega arith) all.1

    pub ready_at : (xs : List X) (i : ℕ) (d : X) → i < length xs → AreReady (map seen xs) → IsReady (seen (slice_index_or xs i d))
    ready_at [] i d inside all = absurd (omega arith)
    ready_at (x ∷ xs) zero d inside all = all.0
    ready_at (x ∷ xs) (suc i) d inside all = ready_at xs i d (omega arith) all.1
