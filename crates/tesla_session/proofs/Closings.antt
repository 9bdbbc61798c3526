-- Closing the last of some workers, and then those before it, closes all of them.
use Rattle.std.proofs.Common.{◌≡◌, List, [], ◌∷◌, ◌++◌, refl, ◌∙◌, map}
use Rattle.tesla_desk.specs.Outside.{Told}
use Rattle.tesla_turn.specs.Held.{TurnId}
use Rattle.tesla_shared.specs.Yields.{Yield}
use Rattle.tesla_session.specs.Session.{PassSeen, Seen, pass_of, join_pass, AreOf, ClosesWorker, ClosesWorkers}

module _ {C V R : Type 0} where
  pub closes_last : (xs : List (Seen C V R)) (w : Seen C V R) (before mid now : Told) (first joined later : PassSeen C V R) → ClosesWorker w before mid → joined ≡ join_pass first (pass_of w)
      → ClosesWorkers xs mid now joined later → ClosesWorkers (xs ++ w ∷ []) before now first later
  closes_last [] w before mid now first joined later closed joins rest = (before, first, (refl, refl), rw rest.0 closed, rest.1 ∙ joins)
  closes_last (x ∷ xs) w before mid now first joined later closed joins rest = (rest.0, rest.1, closes_last xs w before mid rest.0 first joined rest.1 closed joins rest.2, rest.3, rest.4)

  -- the same, where the workers are seen by a map
  pub closes_seen : {X : Type 0} (seen : X → Seen C V R) (xs : List X) (w : X) (before mid now : Told) (first joined later : PassSeen C V R) → ClosesWorker (seen w) before mid → joined ≡ join_pass first (pass_of (seen w))
      → ClosesWorkers (map seen xs) mid now joined later → ClosesWorkers (map seen (xs ++ w ∷ [])) before now first later
  closes_seen seen [] w before mid now first joined later closed joins rest = closes_last [] (seen w) before mid now first joined later closed joins rest
  closes_seen seen (x ∷ xs) w before mid now first joined later closed joins rest = (rest.0, rest.1, closes_seen seen xs w before mid rest.0 first joined rest.1 closed joins rest.2, rest.3, rest.4)

  -- of workers of one turn those before the last, and the last, are of it
  pub are_of_prefix : {X : Type 0} (seen : X → Seen C V R) (turn : TurnId) (xs : List X) (w : X) → AreOf turn (map seen (xs ++ w ∷ [])) → AreOf turn (map seen xs)
  are_of_prefix seen turn [] w all = tt
  are_of_prefix seen turn (x ∷ xs) w all = (all.0, are_of_prefix seen turn xs w all.1)

  pub are_of_last : {X : Type 0} (seen : X → Seen C V R) (turn : TurnId) (xs : List X) (w : X) → AreOf turn (map seen (xs ++ w ∷ [])) → (pass_of (seen w)).turn ≡ turn
  are_of_last seen turn [] w all = all.0
  are_of_last seen turn (x ∷ xs) w all = are_of_last seen turn xs w all.1
