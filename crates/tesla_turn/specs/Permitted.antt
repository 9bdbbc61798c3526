-- Which calls of a history were permitted, each behind those of its pass before.
use Rattle.std.specs.Prelude.{◌≡◌, ℕ, List, ◌∷◌, ◌++◌, Some}
use Rattle.tesla_turn.specs.declared.view.Call.{Call}
use Rattle.tesla_turn.specs.History.{calls_by}
use Rattle.tesla_turn.specs.Held.{Held}

module _ {E : Type 0} where
  -- each call of the history was permitted when it was made: to its pass, behind the calls that this pass made before
  pub record ArePermitted (may : ℕ → List E → E → Type 0) (log : List (Call E)) : Type 0 where
    pub each : (before : List (Call E)) (call : Call E) (after : List (Call E))
        → log ≡ before ++ call ∷ after → may call.by (calls_by call.by before) call.entry

module _ {C E : Type 0} (permits : C → ℕ → List E → E → Type 0) where
  -- each call that the pass has seen was permitted, under the configuration of the value
  abbrev pub OnlyPermitted : Held C E → Type 0
  OnlyPermitted p = (config : C) → p.config ≡ Some config → ArePermitted (permits config) p.seen

  -- the pass may add a call with this entry, as its next one
  abbrev pub MayAdd : Held C E → E → Type 0
  MayAdd p entry = (config : C) → p.config ≡ Some config → permits config p.number p.made entry

  -- the pass may add the call of an act, whatever the act does and replies
  abbrev pub MayCall : {A R : Type 0} → (A → R → E) → (A → A → R → Type 0) → Held C E → A → Type 0
  MayCall {A} {R} entry relation p act =
      (after : A) (reply : R) → relation act after reply → MayAdd p (entry after reply)
