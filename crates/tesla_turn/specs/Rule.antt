-- The rule of the table. Word 0 counts the tickets that were drawn, word 1 the turns that were passed, and the slot is the value's.
use Rattle.std.specs.Prelude.{◌≡◌, ◌⊎◌, ℕ, ◌+◌, ◌^◌, ◌<◌, ◌≤◌, List, [], ◌∷◌, length, Option, Some, None}
use mathlib.Core.Option.{some}
use lib.ListN.{get_elem?}
use Rattle.atomic_table.specs.Table.{State}
use Rattle.tesla_turn.specs.declared.view.Call.{Call}
use Rattle.tesla_turn.specs.declared.view.View.{View}
use Rattle.tesla_turn.specs.declared.view.Phase.{Phase}
use Rattle.tesla_turn.specs.declared.view.Phase.TheVariants.{Idle, Waits, Acts}
use Rattle.tesla_turn.specs.History.{entries, calls_by, calls_of, BeginsWith}
use Rattle.tesla_turn.specs.Permitted.{ArePermitted}

-- the tickets that may still be drawn
abbrev pub all_tickets : {C E : Type 0} → List (View C E) → ℕ
all_tickets [] = 0
all_tickets (v ∷ vs) = v.tickets + all_tickets vs

module _ {E : Type 0} (drawn : ℕ) (log : List (Call E)) (owner : ℕ → ℕ) (seat : ℕ) (seen : List (Call E)) where
  -- a ticket that was drawn and not passed has one owner, and who acts has the first of them and has seen the whole history
  abbrev pub InPhase : Phase → Type 0
  InPhase Idle = Unit {0}
  InPhase (Waits t) = (length log ≤ t) × (t < drawn) × (owner t ≡ seat)
  InPhase (Acts t) = (t ≡ length log) × (t < drawn) × (owner t ≡ seat) × (seen ≡ log)

-- what is known of a pass that was not joined
pub record Live {C E : Type 0} (config : C) (calls drawn : ℕ) (log : List (Call E)) (owner : ℕ → ℕ) (joined : List (Option (List E))) (seat : ℕ) (v : View C E) : Type 0 where
  pub configured : v.config ≡ Some config
  pub number : v.number ≡ seat
  pub calls_is : v.calls ≡ calls
  pub seen : BeginsWith log v.seen
  pub made : calls_by seat log ≡ v.made
  pub apart : calls_of joined seat ≡ None
  pub first : seat ≡ 0 → v.joined ≡ joined
  pub phase : InPhase drawn log owner seat v.seen v.phase

module _ {V C E : Type 0} (config_of : V → C) (stands : V → List E → Type 0) where
  -- the slot has the value, which stands for the history
  abbrev pub AtHome : C → State (Option V) (View C E) → List (Call E) → Type 0
  AtHome config s log = (x : V) × (s.homes ≡ some (Some x) ∷ []) × stands x (entries log) × (config_of x ≡ config)

  -- a pass acts, with the first ticket that was not passed
  abbrev pub OneActs : State (Option V) (View C E) → List (Call E) → Type 0
  OneActs s log = (seat : ℕ) × (v : View C E) × (c : C) × (get_elem? s.views seat ≡ some v) × (v.config ≡ Some c) × (v.phase ≡ Acts (length log))

module _ {V C E : Type 0} (config_of : V → C) (stands : V → List E → Type 0)
    (permits : C → ℕ → List E → E → Type 0) where
  -- There is one history, the log, as long as word 1, and each of its calls was permitted. `joined` has by number the
  -- calls of each pass that was joined; a number from the count of views on was never given, and has no call
  pub record Ruled (config : C) (calls : ℕ) (s : State (Option V) (View C E)) : Type 0 where
    pub drawn : ℕ
    pub log : List (Call E)
    pub owner : ℕ → ℕ
    pub joined : List (Option (List E))
    pub words : s.words ≡ drawn ∷ length log ∷ []
    pub passed : length log ≤ drawn
    pub bound : drawn + all_tickets s.views ≤ 2 ^ 63
    pub one_slot : length s.homes ≡ 1
    pub slot : AtHome config_of stands config s log ⊎ OneActs config_of stands s log
    pub each : (seat : ℕ) (v : View C E) → get_elem? s.views seat ≡ some v → (c : C) → v.config ≡ Some c → Live config calls drawn log owner joined seat v
    pub numbers : length joined ≡ length s.views
    pub unmade : (k : ℕ) → length s.views ≤ k → calls_by k log ≡ []
    pub kept : (k : ℕ) (xs : List E) → calls_of joined k ≡ Some xs → calls_by k log ≡ xs
    pub few : (k : ℕ) → length (calls_by k log) ≤ calls
    pub permitted : ArePermitted (permits config) log
