-- How packets are stored. Each is at its place in a table of slots; an index has the places by interval, and a table the names of those that were released.
use Rattle.std.specs.Prelude.{◌≡◌, ℕ, ◌+◌, ◌*◌, ◌^◌, ◌<◌, ◌≤◌, Bool, true, false, ◌&&◌, cond, List, [], ◌∷◌, length, map, get_or, Option, None, Some}
use Rattle.tesla_base.specs.declared.names.Name.{Name}
use Rattle.tesla_buffer.specs.Held.{Held, is_resting}
use Rattle.tesla_buffer.specs.declared.item.Item.{Item}
use Rattle.tesla_links.specs.Entries.{Entries, Entry}
use Rattle.tesla_base.specs.Members.{Distinct, is_in}

-- an item that stands for none
abbrev pub no_item : Item
no_item = record { order = 0; name = record { interval = 0; number = 0 }; chains = 0; released = false; taken = false; length = 0; payload = []; tags = [] }

-- the item of a slot
abbrev pub item_at : List Item → ℕ → Item
item_at slots slot = get_or slots slot no_item

-- the packet of an entry
abbrev pub held_at : List Item → Entry → Held
held_at slots e = record { place = e.place; item = item_at slots e.place }

-- the slots of entries
abbrev pub entry_slots : List Entry → List ℕ
entry_slots entries = map (λ e. e.place) entries

-- the number that stands for a name
abbrev pub key_of_name : Name → ℕ
key_of_name name = name.interval * 2 ^ 32 + name.number

-- an entry has the interval of its packet as its key, and is marked where the packet was released
abbrev pub IsEntryOf : Item → Entry → Type 0
IsEntryOf item e = (e.key ≡ item.name.interval) × (e.marked ≡ item.released)

-- each entry is that of its packet
abbrev pub Keyed : List Item → List Entry → Type 0
Keyed slots [] = Unit {0}
Keyed slots (e ∷ es) = IsEntryOf (item_at slots e.place) e × Keyed slots es

-- the name under which a slot stands in the table of released packets: that of its packet, where it is held and
-- was released
abbrev pub released_key : List Item → List Entry → ℕ → Option ℕ
released_key slots entries slot = cond (is_in slot (entry_slots entries) && (item_at slots slot).released) (Some (key_of_name (item_at slots slot).name)) None

-- an item that was released has a number that fits into 16 bits
abbrev pub IsNumbered : Item → Type 0
IsNumbered item = item.released ≡ true → item.name.number < 2 ^ 16

-- for each slot that was used it stands beside whether its item rests, so that an item needn't be looked at for it
pub record IsBeside (capacity : ℕ) (slots : List Item) (resting : List Bool) : Type 0 where
  pub long : length resting ≡ capacity
  pub tells : (p : ℕ) → p < length slots → get_or resting p true ≡ is_resting (item_at slots p)

-- the slots that were used are those of packets that are held and the free ones
pub record IsStored (capacity : ℕ) (slots : List Item) (free : List ℕ) (index : Entries) (released : List (Option ℕ)) : Type 0 where
  pub some : 1 ≤ capacity
  pub most : capacity ≤ 65536
  pub room : index.capacity ≡ capacity
  pub slots_within : length slots ≤ capacity
  pub counted : length index.entries + length free ≡ length slots
  pub live : (p : ℕ) → is_in p (entry_slots index.entries) ≡ true → p < length slots
  pub vacant : (p : ℕ) → is_in p free ≡ true → (p < length slots) × (is_in p (entry_slots index.entries) ≡ false)
  pub distinct : Distinct (entry_slots index.entries)
  pub distinct_free : Distinct free
  pub keyed : Keyed slots index.entries
  pub small : (p : ℕ) → IsNumbered (item_at slots p)
  pub names : length released ≡ capacity
  pub named : (p : ℕ) → get_or released p None ≡ released_key slots index.entries p
