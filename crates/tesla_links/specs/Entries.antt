-- The entries of an index, in order of arrival, as contracts see them.
use Rattle.std.specs.Prelude.{ℕ, ◌==◌, Bool, true, not, ◌&&◌, cond, List, [], ◌∷◌, map, Option, None, Some}
use Rattle.std.specs.List.{filter}

-- a key, the slot that has it, and whether the entry is marked
pub record Entry : Type 0 where
  pub key : ℕ
  pub place : ℕ
  pub marked : Bool

-- the entries, and the bound of their number and of their slots; `reserved` is how many entries the tables have room
-- for, together
pub record Entries : Type 0 where
  pub capacity : ℕ
  pub entries : List Entry
  pub reserved : ℕ

-- whether an entry is that of a slot
abbrev pub is_at : ℕ → Entry → Bool
is_at slot e = e.place == slot

-- whether an entry has a key
abbrev pub is_under : ℕ → Entry → Bool
is_under key e = e.key == key

-- whether an entry is that of a slot and not marked
abbrev pub is_unmarked_at : ℕ → Entry → Bool
is_unmarked_at slot e = is_at slot e && not e.marked

-- whether an entry has a key and is not marked
abbrev pub is_unmarked_under : ℕ → Entry → Bool
is_unmarked_under key e = is_under key e && not e.marked

-- the entries after that of a slot was marked
abbrev pub marked_at : ℕ → List Entry → List Entry
marked_at slot entries = map (λ e. cond (is_at slot e) (record e { marked = true }) e) entries

-- the slot of the first entry
abbrev pub first_slot : List Entry → Option ℕ
first_slot [] = None
first_slot (e ∷ es) = Some e.place

-- the slot of the next entry with the same key behind that of a slot
abbrev pub next_slot : ℕ → List Entry → Option ℕ
next_slot slot [] = None
next_slot slot (e ∷ es) = cond (is_at slot e) (first_slot (filter (is_under e.key) es)) (next_slot slot es)

-- the slot of the next unmarked entry with the same key behind that of a slot
abbrev pub next_unmarked : ℕ → List Entry → Option ℕ
next_unmarked slot [] = None
next_unmarked slot (e ∷ es) = cond (is_at slot e) (first_slot (filter (is_unmarked_under e.key) es)) (next_unmarked slot es)
