-- How a table of keys is kept. The slots of each bucket stand in a list, the vacant ones in another.
use Rattle.std.specs.Prelude.{◌≡◌, ℕ, ◌+◌, ◌*◌, ◌/◌, ◌%◌, ◌^◌, ◌<◌, ◌≤◌, true, cond, List, length, map, get_or, Option, None, Some}
use Rattle.std.specs.List.{range_with_len}
use Rattle.tesla_base.specs.Members.{is_in}
use Rattle.tesla_links.specs.Lists.{Lists, list_of}

-- the bucket of a key: its low half numbers the buckets one after another, its high half spreads them
unfoldable pub bucket_of : ℕ → ℕ → ℕ
bucket_of buckets key = (key % 2 ^ 32 + key / 2 ^ 32 * 40503) % buckets

-- the number of the list in which a place stands, by its slot
abbrev pub chain_of : ℕ → Option ℕ → ℕ
chain_of capacity None = capacity
chain_of capacity (Some key) = bucket_of capacity key

-- the slots, read off the lists and the keys
unfoldable pub slots_of : ℕ → Lists → List ℕ → List (Option ℕ)
slots_of capacity chains keys = map (λ p. cond (is_in p (list_of chains capacity)) None (Some (get_or keys p 0))) (range_with_len 0 capacity)

-- each place stands in the list of its slot, and in no other
pub record IsKeyed (capacity : ℕ) (chains : Lists) (keys : List ℕ) (slots : List (Option ℕ)) : Type 0 where
  pub some : 1 ≤ capacity
  pub most : capacity ≤ 65536
  pub slot_count : chains.slot_count ≡ capacity
  pub lists : length chains.lists ≡ capacity + 1
  pub keyed : length keys ≡ capacity
  pub slotted : length slots ≡ capacity
  pub key : (p k : ℕ) → get_or slots p None ≡ Some k → get_or keys p 0 ≡ k
  pub chained : (p : ℕ) → p < capacity → is_in p (list_of chains (chain_of capacity (get_or slots p None))) ≡ true
  pub only : (p j : ℕ) → j ≤ capacity → is_in p (list_of chains j) ≡ true → (p < capacity) × (chain_of capacity (get_or slots p None) ≡ j)
