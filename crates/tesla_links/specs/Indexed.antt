-- How an index is kept. The slots are in the order in which they came, and for each key in use there is a group, which
-- is the list of the slots under it. The marked slots stand in a list of their own, the others in the list of their
-- group.
use Rattle.std.specs.Prelude.{◌≡◌, ℕ, ◌==◌, ◌+◌, ◌<◌, ◌≤◌, Bool, true, not, List, length, map, get_or, Option, None, Some}
use Rattle.std.specs.List.{filter}
use Rattle.std.specs.Option.{unwrap_or}
use Rattle.tesla_links.specs.Entries.{Entry}
use Rattle.tesla_base.specs.Members.{Distinct, is_in}
use Rattle.tesla_links.specs.Lists.{Lists, list_of}

-- the group of a slot
abbrev pub group_of : List ℕ → ℕ → ℕ
group_of groups slot = get_or groups slot 0

-- whether a slot is marked, by the list behind those of the groups
abbrev pub is_marked : ℕ → Lists → ℕ → Bool
is_marked capacity unmarked slot = is_in slot (list_of unmarked capacity)

-- the entry of a slot, whose key is that of its group
abbrev pub entry_of : List (Option ℕ) → List ℕ → (ℕ → Bool) → ℕ → Entry
entry_of keys groups marks slot = record { key = unwrap_or (get_or keys (group_of groups slot) None) 0; place = slot; marked = marks slot }

-- the entries, read off the slots
unfoldable pub entries_of : Lists → List (Option ℕ) → List ℕ → (ℕ → Bool) → List Entry
entries_of order keys groups marks = map (entry_of keys groups marks) (list_of order 0)

-- each group in use has the slots under its key, and no two have one key
pub record IsIndexed (capacity : ℕ) (order members : Lists) (groups : List ℕ) (keys : List (Option ℕ)) : Type 0 where
  pub some : 1 ≤ capacity
  pub most : capacity ≤ 65536
  pub slot_count : order.slot_count ≡ capacity
  pub one : length order.lists ≡ 1
  pub member_slots : members.slot_count ≡ capacity
  pub member_lists : length members.lists ≡ capacity
  pub grouped : length groups ≡ capacity
  pub keyed : length keys ≡ capacity
  pub distinct : Distinct (list_of order 0)
  pub within : (p : ℕ) → is_in p (list_of order 0) ≡ true → (p < capacity) × (group_of groups p < capacity)
  pub member : (g : ℕ) → g < capacity → list_of members g ≡ filter (λ p. group_of groups p == g) (list_of order 0)
  pub live : (p : ℕ) → is_in p (list_of order 0) ≡ true → (key : ℕ) × (get_or keys (group_of groups p) None ≡ Some key)
  pub used : (g key : ℕ) → get_or keys g None ≡ Some key → (p : ℕ) × (is_in p (list_of order 0) ≡ true) × (group_of groups p ≡ g)
  pub unique : (g h key : ℕ) → get_or keys g None ≡ Some key → get_or keys h None ≡ Some key → g ≡ h

-- the list of each group has its unmarked slots, and the one behind them has only slots that are listed
pub record IsMarked (capacity : ℕ) (order members unmarked : Lists) : Type 0 where
  pub slot_count : unmarked.slot_count ≡ capacity
  pub lists : length unmarked.lists ≡ capacity + 1
  pub open_slots : (g : ℕ) → g < capacity → list_of unmarked g ≡ filter (λ p. not (is_marked capacity unmarked p)) (list_of members g)
  pub marked : (p : ℕ) → is_marked capacity unmarked p ≡ true → is_in p (list_of order 0) ≡ true
