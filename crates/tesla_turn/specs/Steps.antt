-- What each step on the table tells. Also the views of the first pass, and of a split and a join.
use Rattle.std.specs.Prelude.{◌≡◌, ◌≢◌, ℕ, ◌+◌, ◌*◌, ◌-◌, ◌^◌, ◌<◌, ◌≤◌, List, [], ◌∷◌, ◌++◌, length, slice_set, Option, Some, None}
use Rattle.atomic_table.specs.Table.{Me, Step}
use Rattle.atomic_table.specs.Seated.{TableId}
use Rattle.atomic_table.specs.declared.shared.Seat.{Seat}
use Rattle.tesla_turn.specs.declared.view.View.{View}
use Rattle.tesla_turn.specs.declared.view.Phase.{Phase}
use Rattle.tesla_turn.specs.declared.view.Phase.TheVariants.{Idle, Waits, Acts}
use Rattle.tesla_turn.specs.History.{entries, calls_by, HasCalls, BeginsWith, longer}
use Rattle.tesla_turn.specs.Permitted.{ArePermitted}

-- the table of a turn has two words and one slot
abbrev pub IsTurn : TableId → Type 0
IsTurn z = (z.words ≡ 2) × (z.slots ≡ 1)

-- what stays over a step
abbrev pub IsSameSeat : {S V : Type 0} → Seat S V → Seat S V → Type 0
IsSameSeat a b = (b.table_id ≡ a.table_id) × (b.id ≡ a.id)

module _ {C E : Type 0} where
  -- the pass was not joined into another
  abbrev pub IsLive : View C E → Type 0
  IsLive v = (c : C) × (v.config ≡ Some c)

  -- a ticket was drawn, and the pass is in this phase
  abbrev pub with_ticket : View C E → Phase → View C E
  with_ticket v phase = record v { tickets = v.tickets - 1; phase = phase }

  -- a call was made
  abbrev pub with_call : View C E → E → View C E
  with_call v e = record v { seen = v.seen ++ record { by = v.number; entry = e } ∷ []; made = v.made ++ e ∷ []; phase = Idle }

  abbrev pub first_view : C → ℕ → ℕ → View C E
  first_view config passes calls = record { number = 0; config = Some config; tickets = passes * calls + 1; seen = []; made = []; room = passes - 1; calls = calls; joined = None ∷ []; phase = Idle }

  abbrev pub gave_pass : View C E → View C E
  gave_pass v = record v { tickets = v.tickets - v.calls; room = v.room - 1; joined = v.joined ++ None ∷ [] }

  abbrev pub new_view : View C E → View C E
  new_view v = record { number = length v.joined; config = v.config; tickets = v.calls; seen = v.seen; made = []; room = 0; calls = v.calls; joined = []; phase = Idle }

  abbrev pub both_views : View C E → View C E → View C E
  both_views v w = record v { seen = longer v.seen w.seen; joined = slice_set v.joined w.number (Some w.made) }

  abbrev pub spent_view : View C E
  spent_view = record { number = 0; config = None; tickets = 0; seen = []; made = []; room = 0; calls = 0; joined = []; phase = Idle }

-- a seat's view, with the slots that it holds
abbrev pub Mine : Type 0 → Type 0 → Type 0 → Type 0
Mine V C E = Me (Option V) (View C E)

module _ {V C E : Type 0} where
  abbrev pub drew : Step (Option V) → Mine V C E → ℕ → Mine V C E → Type 0
  drew st m n m' = m' ≡ (with_ticket m.0 (Waits n), m.1)

  -- it is the turn of the pass, which has seen the whole history h and holds the value x
  pub record Reached (config_of : V → C) (stands : V → List E → Type 0) (permits : C → ℕ → List E → E → Type 0) (v w : View C E) (t : ℕ) (x : V) : Type 0 where
    pub now : w ≡ record v { seen = w.seen; phase = Acts t }
    pub begins : BeginsWith w.seen v.seen
    pub size : (length w.seen ≡ t) × (t < 2 ^ 63)
    pub own : calls_by v.number w.seen ≡ v.made
    pub stood : stands x (entries w.seen)
    pub configured : v.config ≡ Some (config_of x)
    pub whole : v.number ≡ 0 → HasCalls w.seen (slice_set v.joined 0 (Some v.made))
    pub permitted : ArePermitted (permits (config_of x)) w.seen

  abbrev pub looked : (V → C) → (V → List E → Type 0) → (C → ℕ → List E → E → Type 0) → Step (Option V) → Mine V C E → ℕ → Mine V C E → Type 0
  looked config_of stands permits st m n m' = (t : ℕ) → m.0.phase ≡ Waits t
      → (n ≤ t) × (n ≢ t → m' ≡ m) × (n ≡ t → (x : V) × (m'.1 ≡ (0, Some x) ∷ []) × Reached config_of stands permits m.0 m'.0 t x)

  -- the turn was passed, with the entries in the history
  abbrev pub handed_on : List E → Step (Option V) → Mine V C E → ℕ → Mine V C E → Type 0
  handed_on es st m n m' = (e : E) → es ≡ e ∷ []
      → m' ≡ (with_call m.0 e, [])

  -- the slot was given back, and the pass stays in its turn
  abbrev pub gave_back : Step (Option V) → Mine V C E → ℕ → Mine V C E → Type 0
  gave_back st m n m' = m' ≡ (m.0, [])
