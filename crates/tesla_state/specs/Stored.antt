-- What contracts see of packets that have a slot. Also of those that wait to be taken.
use Rattle.std.specs.Prelude.{◌≡◌, ℕ, ◌≤◌, Bool, true, false, not, ◌&&◌, ◌||◌, List, [], ◌∷◌, length, map, take, filter, find, Option, Some, None, cond, All, nat_lt, nat_le, drop, flat_map, min, ◌+◌, ◌-◌, ◌^◌, ◌==◌, if◌then◌else◌}
use Rattle.std.specs.List.{list_any, list_all}
use Rattle.tesla_base.specs.declared.names.Name.{Name}
use Rattle.tesla_base.specs.declared.names.Place.{Place}
use Rattle.tesla_buffer.specs.Held.{Held}
use Rattle.tesla_base.specs.Members.{Distinct}
use Rattle.tesla_release.specs.declared.queue.Waiting.{Waiting}
use Rattle.tesla_walks.specs.declared.ordering.Proved.{Proved}
use Rattle.tesla_walks.specs.declared.release.Release.{Release}
use Rattle.tesla_base.specs.declared.release.Head.{Head}
use Rattle.tesla_keys.specs.Tip.{Tip}
use Rattle.tesla_fitting.specs.declared.config.Config.{Config}
use Rattle.tesla_fitting.specs.Config.{chains}
use Rattle.tesla_frame.specs.declared.row.KeyRow.{KeyRow}
use Rattle.tesla_walks.specs.ReachedIntervals.{index_at, is_reached}
use Rattle.tesla_state.specs.Releases.{is_at, head_of}
use Rattle.tesla_walks.specs.ItemShown.{holding_in, IsItem}
use Rattle.tesla_walks.specs.Holding.{Holding}
use Rattle.tesla_state.specs.Steps.{is_named_so, is_let_go, is_passed, marked, in_interval}
use Rattle.tesla_state.specs.declared.reach.Reach.{Reach}

-- a held packet with its slot
pub record Placed : Type 0 where
  pub place : ℕ
  pub holding : Holding

pub record Stored : Type 0 where
  pub capacity : ℕ
  -- how many tags each packet has
  pub chains : ℕ
  -- in order of arrival
  pub held : List Placed
  -- the released packets that weren't given yet, in order
  pub waiting : List Release
  -- how many were given
  pub given : ℕ
  -- how many entries the tables have room for, together
  pub reserved : ℕ

abbrev pub placed_in : ℕ → Held → Placed
placed_in chains held = record { place = held.place; holding = holding_in chains held.item }

abbrev pub slot_of : Placed → ℕ
slot_of x = x.place

abbrev pub slot_here : Placed → ℕ
slot_here x = x.place

abbrev pub holding_at : Placed → Holding
holding_at x = x.holding

abbrev pub stands_at : ℕ → Placed → Bool
stands_at slot x = x.place == slot

-- the packet in a slot, as its release on a chain
abbrev pub release_by : ℕ → Option Placed → Release
release_by chain None = record { place = 0; name = record { interval = 0; number = 0 }; chain = record { 0 = chain } }
release_by chain (Some x) = record { place = x.holding.order; name = x.holding.name; chain = record { 0 = chain } }

abbrev pub release_in : List Placed → Waiting → Release
release_in held entry = release_by entry.chain (find (stands_at entry.place.0) held)

-- the packet was released and not taken
abbrev pub waits : Placed → Bool
waits x = x.holding.released && not x.holding.taken

abbrev pub waits_at : ℕ → Placed → Bool
waits_at slot x = stands_at slot x && waits x

-- the packet stands there and doesn't wait to be taken
abbrev pub rests_at : ℕ → Placed → Bool
rests_at slot x = stands_at slot x && not (waits x)

-- only what was released was taken
abbrev pub is_sound : Placed → Bool
is_sound x = x.holding.released || not x.holding.taken

-- the packet stands there, isn't released, and is the one of the release
abbrev pub is_proved_by : Proved → Placed → Bool
is_proved_by proved x =
    stands_at proved.place.0 x
    && (not x.holding.released && (x.holding.order == proved.release.place && (x.holding.name.interval == proved.release.name.interval && x.holding.name.number == proved.release.name.number)))

abbrev pub with_released : ℕ → Placed → Placed
with_released slot x = if x.place == slot then record x { holding = record x.holding { released = true } } else x

abbrev pub with_taken : ℕ → Placed → Placed
with_taken slot x = if x.place == slot then record x { holding = record x.holding { taken = true } } else x

-- what is held without the packet in a slot
abbrev pub without : ℕ → List Placed → List Placed
without slot held = filter (λ x. not (stands_at slot x)) held

abbrev pub slot_in : Waiting → ℕ
slot_in entry = entry.place.0

-- the slots differ, and each entry that waits is of a packet that was released and not taken, each once
pub record IsStored (capacity room : ℕ) (held : List Placed) (waiting : List Waiting) : Type 0 where
  pub few : capacity ≤ 65536
  pub fits : length held ≤ capacity
  pub same : room ≡ capacity
  pub distinct : Distinct (map slot_of held)
  pub sound : list_all is_sound held ≡ true
  pub once : Distinct (map slot_in waiting)
  pub live : list_all (λ entry. list_any (waits_at entry.place.0) held) waiting ≡ true

abbrev pub release_of : Proved → Release
release_of proved = proved.release

-- a packet of the name is held that was released
abbrev pub is_named : List Placed → Name → Bool
is_named held name = list_any (λ (x : Placed). is_named_so name x.holding) held

-- a packet after those of a batch were proved, of which some are released now: the others of the batch are let go
abbrev pub after_batch : List Release → List Release → Placed → List Placed
after_batch batch now x =
    if list_any (is_at x.holding.order) batch && not (list_any (is_at x.holding.order) now) then []
    else record x { holding = marked now x.holding } ∷ []

-- what stands in a slot of each of these
abbrev pub AreProved : List Placed → List Proved → Type 0
AreProved held batch = list_all (λ (proved : Proved). list_any (is_proved_by proved) held) batch ≡ true

abbrev pub slot_proved : Proved → ℕ
slot_proved proved = proved.place.0

abbrev pub order_of : Placed → ℕ
order_of x = x.holding.order

-- a proved packet is let go where one of its name is released, and else released
abbrev pub settled_if : Bool → List Placed → Proved → List Placed
settled_if true held proved = without proved.place.0 held
settled_if false held proved = map (with_released proved.place.0) held

abbrev pub released_if : Bool → Proved → List Proved
released_if true proved = []
released_if false proved = proved ∷ []

-- what is held once this one is settled
abbrev pub held_then : List Placed → Proved → List Placed
held_then held proved = settled_if (is_named held proved.release.name) held proved

-- the slot of the first packet
abbrev pub first_slot : List Placed → Option Place
first_slot [] = None
first_slot (x ∷ xs) = Some (record { 0 = x.place })

abbrev pub is_of : ℕ → Placed → Bool
is_of interval x = in_interval interval x.holding

-- the slot of the next packet of the same interval behind the one in a slot
abbrev pub next_slot : ℕ → List Placed → Option Place
next_slot slot [] = None
next_slot slot (x ∷ xs) = cond (stands_at slot x) (first_slot (filter (is_of x.holding.name.interval) xs)) (next_slot slot xs)

-- the packet is of the interval and isn't released
abbrev pub is_unreleased_of : ℕ → Placed → Bool
is_unreleased_of interval x = is_of interval x && not x.holding.released

-- it stands there and isn't released
abbrev pub is_unreleased_at : ℕ → Placed → Bool
is_unreleased_at slot x = stands_at slot x && not x.holding.released

-- the slot of the next packet of the same interval behind the one in a slot, among those that aren't released
abbrev pub next_unreleased : ℕ → List Placed → Option Place
next_unreleased slot [] = None
next_unreleased slot (x ∷ xs) = cond (stands_at slot x) (first_slot (filter (is_unreleased_of x.holding.name.interval) xs)) (next_unreleased slot xs)

-- the item in a slot has room for its payload, and zeros behind its tags
abbrev pub IsItemOf : ℕ → Held → Type 0
IsItemOf chains held = IsItem chains held.item

-- what a store holds: slots, and items
pub record IsStore (capacity room chains : ℕ) (held : List Held) (waiting : List Waiting) : Type 0 where
  pub stored : IsStored capacity room (map (placed_in chains) held) waiting
  pub items : All (IsItemOf chains) held

-- the packet isn't needed any more: no key can prove it and it isn't released, or it was taken and all chains have passed it
abbrev pub is_idle : Config → List Tip → Placed → Bool
is_idle cfg tips x = is_let_go cfg tips [] x.holding

-- the packet's interval is above the one and not above the other
abbrev pub in_span : ℕ → ℕ → Placed → Bool
in_span low high x = nat_lt low x.holding.name.interval && nat_le x.holding.name.interval high

-- its interval is, and new keys are the first of their chains to reach it
abbrev pub in_reach : Reach → List KeyRow → Placed → Bool
in_reach reach new x = in_span reach.low reach.high x && is_reached (index_at reach.indices) new x.holding.name.interval

-- a packet after the one of that number was taken
abbrev pub after_take : Config → List Tip → ℕ → Placed → List Placed
after_take cfg tips order x =
    if x.holding.order == order
    then (if list_all (is_passed tips x.holding.name.interval) (chains cfg) then [] else record x { holding = record x.holding { taken = true } } ∷ [])
    else x ∷ []

-- a take gave this head of the packet that waited first, whose payload is at the start of the bytes now
pub record IsGiven (cfg : Config) (tips : List Tip) (position : ℕ) (old new : Stored) (head : Head) (before after : List ℕ) : Type 0 where
  pub packet : Placed
  pub found : find (λ x. x.holding.order == packet.holding.order) old.held ≡ Some packet
  pub chain : ℕ
  pub first : old.waiting ≡ release_by chain (Some packet) ∷ new.waiting
  pub head_is : head ≡ head_of position (release_by chain (Some packet)) packet.holding.payload
  pub payload : take head.length after ≡ packet.holding.payload
  pub behind : (head.length ≤ 1200) × (drop head.length after ≡ drop head.length before)
  pub held : new.held ≡ flat_map (after_take cfg tips packet.holding.order) old.held
  pub given : new.given ≡ min (old.given + 1) (2 ^ 64 - 1)

-- each packet is needed
abbrev pub AreNeeded : Config → List Tip → List Placed → Type 0
AreNeeded cfg tips held = list_all (λ x. not (is_idle cfg tips x)) held ≡ true
