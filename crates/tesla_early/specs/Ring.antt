-- How promises are kept. Each is at its place in a table, and the places of each bucket are in a list. The places are used in turn, round a ring.
use Rattle.std.specs.Prelude.{◌≡◌, ℕ, zero, suc, ◌+◌, ◌-◌, ◌*◌, ◌%◌, ◌==◌, ◌<◌, ◌≤◌, ◌⊎◌, Bool, false, List, [], ◌++◌, Option, Some, None, length, map, get_or, if◌then◌else◌}
use Rattle.std.specs.List.{filter, range_with_len}
use Rattle.sha2.specs.Sha256.{sha256}
use Rattle.tesla_base.specs.Members.{without}
use Rattle.tesla_base.specs.declared.names.Name.{Name}
use Rattle.tesla_links.specs.Lists.{Lists, list_of}
use Rattle.tesla_early.specs.Kept.{is_of_message}
use Rattle.tesla_early.specs.Stands.{Kept}
use Rattle.tesla_early.specs.declared.promises.Slot.{Slot}

-- a slot that stands for none
abbrev pub no_slot : Slot
no_slot = record { promise = record { name = record { interval = 0; number = 0 }; hash = [] }; used = false }

-- the slot of a place
abbrev pub slot_at : List Slot → ℕ → Slot
slot_at slots index = get_or slots index no_slot

-- the promise of a slot
abbrev pub kept_in : Slot → Kept
kept_in slot = record { promise = slot.promise; used = slot.used }

-- the promise of a place
abbrev pub kept_at : List Slot → ℕ → Kept
kept_at slots index = kept_in (slot_at slots index)

-- the promise of a place isn't used, and it's of a message of this name whose payload has this digest
abbrev pub is_found : List Slot → Name → List ℕ → ℕ → Bool
is_found slots name hash index = is_of_message name hash (kept_at slots index)

-- what is known of the digest of a payload is that digest
abbrev pub IsDigest : Option (List ℕ) → List ℕ → Type 0
IsDigest None payload = Unit {0}
IsDigest (Some digest) payload = digest ≡ sha256 payload

-- the bucket of a name
unfoldable pub bucket_of : ℕ → Name → ℕ
bucket_of buckets name = (name.interval * 61 + name.number) % buckets

-- the promise of a place is of a name in this bucket
abbrev pub is_in_bucket : ℕ → List Slot → ℕ → ℕ → Bool
is_in_bucket buckets slots bucket index = bucket_of buckets (slot_at slots index).promise.name == bucket

-- the places that are taken, in the order in which their promises were learnt: those from the next one on, once all are taken, before the others
abbrev pub order_of : ℕ → ℕ → List ℕ
order_of count next = range_with_len next (count - next) ++ range_with_len 0 next

-- the place behind this one, round the ring
abbrev pub index_after : ℕ → ℕ → ℕ
index_after most index = if index + 1 == most then 0 else index + 1

-- how many places are taken with one promise more
abbrev pub count_after : ℕ → ℕ → ℕ
count_after most count = if count == most then most else count + 1

-- the lists once there is room for one promise more: where all places were taken, this one is in none
abbrev pub room_made : ℕ → ℕ → ℕ → List (List ℕ) → List (List ℕ)
room_made most count index lists = if count == most then map (without index) lists else lists

-- the lists without the places below a number
abbrev pub without_below : ℕ → List (List ℕ) → List (List ℕ)
without_below zero lists = lists
without_below (suc n) lists = map (without n) (without_below n lists)

-- the list of each bucket has the places of its promises, in the order in which they were learnt
pub record IsRing (most count next : ℕ) (buckets : Lists) (slots : List Slot) : Type 0 where
  pub some : 1 ≤ most
  pub few : most ≤ 4096
  pub within : next < most
  pub taken : (count ≡ next) ⊎ (count ≡ most)
  pub slot_count : buckets.slot_count ≡ most
  pub lists : length buckets.lists ≡ most
  pub long : length slots ≡ most
  pub listed : (b : ℕ) → b < most → list_of buckets b ≡ filter (is_in_bucket most slots b) (order_of count next)
