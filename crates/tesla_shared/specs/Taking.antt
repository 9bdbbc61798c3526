-- What one take of a worker comes to.
use Rattle.std.specs.Prelude.{◌≡◌, ℕ, List, [], ◌∷◌, ◌++◌}
use Rattle.tesla_receiver.specs.declared.history.Entry.{Entry}
use Rattle.tesla_receiver.specs.declared.history.Entry.TheVariants.{Taken}
use Rattle.tesla_turn.specs.Held.{Held, OnlyCalls, Stood}
use Rattle.tesla_turn.specs.History.{calls_by}
use Rattle.tesla_turn.specs.Permitted.{OnlyPermitted}
use Rattle.tesla_shared.specs.Yields.{Yield, GathersYield}
use Rattle.tesla_shared.specs.declared.station.Gathered.{Gathered}

module _ {X C V R : Type 0} (config_of : X → C) (stands : X → List (Entry V R) → Type 0) (permits : C → ℕ → List (Entry V R) → Entry V R → Type 0) (yields : R → Yield) where
  -- a pass took once, and what its answer yields was gathered
  pub record TakesOne (releaser : ℕ) (before after : Held C (Entry V R)) (bytes : List ℕ) (result : Gathered) : Type 0 where
    pub reply : R
    pub made : after.made ≡ before.made ++ Taken releaser reply ∷ []
    pub gathers : GathersYield (yields reply) [] bytes result
    pub calls : OnlyCalls before after
    pub own : calls_by after.number after.seen ≡ after.made
    pub stood : Stood config_of stands after
    pub permitted : OnlyPermitted permits after
