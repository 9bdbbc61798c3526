-- What a station stands for that workers shared by turns.
use Rattle.std.specs.Prelude.{ℕ, Bool, List}
use Rattle.tesla_receiver.specs.declared.history.Entry.{Entry}
use Rattle.tesla_shared.specs.Due.{IsOfWorker}
use Rattle.tesla_turn.specs.History.{entries}
use Rattle.tesla_turn.specs.Permitted.{ArePermitted}
use Rattle.tesla_turn.specs.declared.view.Call.{Call}

module _ {X C V R : Type 0} (config_of : X → C) (stands : X → List (Entry V R) → Type 0) (ingests : C → ℕ) (read_for : ℕ → List ℕ → ℕ → Bool) where
  -- the station stands for the history of these calls, and each of them is a call of a worker
  pub record StandsForCalls (station : X) (log : List (Call (Entry V R))) : Type 0 where
    pub stood : stands station (entries log)
    pub calls : ArePermitted (IsOfWorker read_for (ingests (config_of station))) log
