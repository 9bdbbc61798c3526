-- What holds of every pass between two calls.
use Rattle.std.specs.Prelude.{◌≡◌, ◌≢◌, ℕ, ◌+◌, ◌*◌, ◌<◌, Bool, true, false, List, [], ◌∷◌, length, slice_set, Some}
use Rattle.tesla_turn.specs.declared.view.View.{View}
use Rattle.tesla_turn.specs.declared.view.Phase.TheVariants.{Idle}
use Rattle.tesla_turn.specs.History.{HasCalls}
use Rattle.tesla_turn.specs.Held.{Ended}
use Rattle.tesla_turn.specs.Steps.{Mine, IsLive}

-- the ticket of the close
abbrev pub closing : Bool → ℕ
closing true = 1
closing false = 0

-- It is idle and holds no slot; its numbers are those of its view; and it has a ticket for each call that it, or a pass that it may still give, has left
pub record IsPass {V C E : Type 0} (me : Mine V C E) (left room calls : ℕ) (first : Bool) : Type 0 where
  pub idle : (me.0.phase ≡ Idle) × (me.1 ≡ [])
  pub live : IsLive me.0
  pub numbers : (me.0.room ≡ room) × (me.0.calls ≡ calls)
  pub left_is : length me.0.made + left ≡ calls
  pub tickets : me.0.tickets ≡ left + room * calls + closing first
  pub first_is : (first ≡ true → (me.0.number ≡ 0) × (0 < length me.0.joined)) × (first ≡ false → (me.0.number ≢ 0) × (room ≡ 0))

module _ {C E : Type 0} where
  -- what the view of the closing pass says of the end; no other pass closes
  abbrev pub ended : List (View C E) → Ended E
  ended [] = record { history = []; passes = [] }
  ended (v ∷ vs) = record { history = v.seen; passes = slice_set v.joined 0 (Some v.made) }

  abbrev pub HasEnded : List (View C E) → Type 0
  HasEnded vs = HasCalls (ended vs).history (ended vs).passes
