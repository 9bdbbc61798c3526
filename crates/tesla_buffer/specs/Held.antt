-- The packets that a buffer holds, in order of arrival, as contracts see them.
use Rattle.std.specs.Prelude.{◌≡◌, ℕ, ◌==◌, Bool, true, false, not, ◌&&◌, ◌||◌, cond, List, [], ◌∷◌, length, map, take, Option, None, Some}
use Rattle.std.specs.List.{filter, list_any}
use Rattle.tesla_base.specs.declared.names.Name.{Name}
use Rattle.tesla_base.specs.declared.names.Place.{Place}
use Rattle.tesla_base.specs.declared.names.WideTag.{WideTag}
use Rattle.tesla_base.specs.Tag.{wide_tag}
use Rattle.tesla_frame.specs.Frame.{DataFrame, TagRow}
use Rattle.tesla_buffer.specs.declared.item.Fate.{Fate}
use Rattle.tesla_buffer.specs.declared.item.Fate.TheVariants.{Released, Taken, Gone}
use Rattle.tesla_buffer.specs.declared.item.Item.{Item}

-- a packet and its slot
pub record Held : Type 0 where
  pub place : ℕ
  pub item : Item

-- the packets that are held, in the order in which they came, and how many can be; `reserved` is how many entries the
-- tables have room for, together
pub record Holding : Type 0 where
  pub capacity : ℕ
  pub held : List Held
  pub reserved : ℕ

-- whether a packet is at a slot
abbrev pub is_at : ℕ → Held → Bool
is_at slot h = h.place == slot

-- whether a packet is at a slot of those held
abbrev pub is_live : ℕ → List Held → Bool
is_live slot held = list_any (is_at slot) held

-- whether a packet is of an interval
abbrev pub is_of : ℕ → Held → Bool
is_of interval h = h.item.name.interval == interval

-- whether a packet is at a slot and was not released
abbrev pub is_unreleased_at : ℕ → Held → Bool
is_unreleased_at slot h = is_at slot h && not h.item.released

-- whether a packet is of an interval and was not released
abbrev pub is_unreleased_of : ℕ → Held → Bool
is_unreleased_of interval h = is_of interval h && not h.item.released

-- whether a packet was released under a name
abbrev pub is_released_as : Name → Held → Bool
is_released_as name h = h.item.released && ((h.item.name.interval == name.interval) && (h.item.name.number == name.number))

-- the slot of the first packet
abbrev pub first_slot : List Held → Option Place
first_slot [] = None
first_slot (h ∷ hs) = Some (record { 0 = h.place })

-- the slot of the next packet of the same interval behind the one at a slot
abbrev pub next_slot : ℕ → List Held → Option Place
next_slot slot [] = None
next_slot slot (h ∷ hs) = cond (is_at slot h) (first_slot (filter (is_of h.item.name.interval) hs)) (next_slot slot hs)

-- the slot of the next packet of the same interval behind the one at a slot, among those that were not released
abbrev pub next_unreleased : ℕ → List Held → Option Place
next_unreleased slot [] = None
next_unreleased slot (h ∷ hs) = cond (is_at slot h) (first_slot (filter (is_unreleased_of h.item.name.interval) hs)) (next_unreleased slot hs)

-- the packet at a slot is changed
abbrev pub changed : ℕ → (Item → Item) → List Held → List Held
changed slot change held = map (λ h. cond (is_at slot h) (record { place = h.place; item = change h.item }) h) held

-- the packets after what became of the one at a slot
abbrev pub settled : ℕ → Fate → List Held → List Held
settled slot Released held = changed slot (λ item. record item { released = true }) held
settled slot Taken held = changed slot (λ item. record item { taken = true }) held
settled slot Gone held = filter (λ h. not (is_at slot h)) held

-- whether a packet doesn't wait to be taken: it was not released, or it was taken
abbrev pub is_resting : Item → Bool
is_resting item = not item.released || item.taken

-- the tag of a row, with zeros that fill up its room
abbrev pub wide_tag_in : TagRow → WideTag
wide_tag_in row = wide_tag row.tag

-- whether a packet was not taken
abbrev pub is_untaken : Held → Bool
is_untaken h = not h.item.taken

-- an item is that of the packet of a frame: the bytes of the payload and the tags stand first
pub record IsMadeOf (arrival : ℕ) (safe : ℕ) (frame : DataFrame) (item : Item) : Type 0 where
  pub order : item.order ≡ arrival
  pub name : item.name ≡ frame.name
  pub chains : item.chains ≡ safe
  pub size : item.length ≡ length frame.payload
  pub payload : take (length frame.payload) item.payload ≡ frame.payload
  pub tags : take (length frame.rows) item.tags ≡ map wide_tag_in frame.rows
  pub released : item.released ≡ false
  pub taken : item.taken ≡ false
