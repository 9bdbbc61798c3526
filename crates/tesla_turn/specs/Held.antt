-- What contracts see of a pass, and of the end of a turn.
use Rattle.std.specs.Prelude.{◌≡◌, ℕ, ◌-◌, List, [], ◌∷◌, ◌++◌, length, Option, Some, None}
use Rattle.atomic_table.specs.Seated.{TableId}
use Rattle.tesla_turn.specs.declared.view.View.{View}
use Rattle.tesla_turn.specs.declared.view.Call.{Call}
use Rattle.tesla_turn.specs.History.{entries, calls_by}

-- which turn it is
abbrev pub TurnId : Type 0
TurnId = TableId

-- a pass: its turn, its number, the configuration of the value, the history that it has seen, its own calls, how many passes it may still give,
-- how many calls a pass may make, and by number the calls of each pass that was joined into it
pub record Held (C E : Type 0) : Type 0 where
  pub turn : TurnId
  pub number : ℕ
  pub config : Option C
  pub seen : List (Call E)
  pub made : List E
  pub room : ℕ
  pub calls : ℕ
  pub joined : List (Option (List E))

-- the end of a turn: the whole history, and by number the calls of the passes
pub record Ended (E : Type 0) : Type 0 where
  pub history : List (Call E)
  pub passes : List (Option (List E))

module _ {C E : Type 0} where
  abbrev pub held : TurnId → View C E → Held C E
  held t v = record { turn = t; number = v.number; config = v.config; seen = v.seen; made = v.made; room = v.room; calls = v.calls; joined = v.joined }

  -- how many calls the pass has left
  abbrev pub left_of : Held C E → ℕ
  left_of p = p.calls - length p.made

  -- the pass that an opened turn gives
  abbrev pub first_pass : TurnId → C → ℕ → ℕ → Held C E
  first_pass turn config passes calls = record { turn = turn; number = 0; config = Some config; seen = []; made = []; room = passes - 1; calls = calls; joined = None ∷ [] }

  -- the pass that a split gives: it has the next number, and has seen what the other has
  abbrev pub next_pass : Held C E → Held C E
  next_pass p = record { turn = p.turn; number = length p.joined; config = p.config; seen = p.seen; made = []; room = 0; calls = p.calls; joined = [] }

  -- calls may have been made, and nothing else has changed
  abbrev pub OnlyCalls : Held C E → Held C E → Type 0
  OnlyCalls before after = after ≡ record before { seen = after.seen; made = after.made }

  -- A call was made. The history begins with all that the pass had seen and ends with this call, and of the pass's calls it has those that the pass made, each once
  pub record Made (before after : Held C E) (entry : E) : Type 0 where
    pub between : List (Call E)
    pub history : after.seen ≡ (before.seen ++ between) ++ record { by = before.number; entry = entry } ∷ []
    pub own : calls_by before.number after.seen ≡ after.made
    pub made : after.made ≡ before.made ++ entry ∷ []
    pub only_calls : OnlyCalls before after

  -- there is a value of this configuration that stands for the history that the pass has seen
  abbrev pub Stood : {V : Type 0} → (V → C) → (V → List E → Type 0) → Held C E → Type 0
  Stood {V} config stands p = (value : V) × stands value (entries p.seen) × (p.config ≡ Some (config value))
