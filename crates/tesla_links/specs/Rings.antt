-- How lists are kept: each is a ring of nodes, linked both ways. Node p is the number p, and node `slot_count + k` is
-- the head of list k, in front of its first number and behind its last.
use Rattle.std.specs.Prelude.{◌≡◌, ℕ, zero, suc, ◌+◌, ◌^◌, ◌<◌, ◌≤◌, List, [], ◌∷◌, length, map, get_or}
use Rattle.std.specs.List.{range_with_len}
use Rattle.tesla_base.specs.Members.{Distinct}

-- n nodes from one on, each after the other
unfoldable pub walk : List ℕ → ℕ → ℕ → List ℕ
walk after zero node = []
walk after (suc n) node = node ∷ walk after n (get_or after node 0)

-- the lists, read off the rings
unfoldable pub lists_of : ℕ → List ℕ → List ℕ → List (List ℕ)
lists_of slot_count after counts = map (λ k. walk after (get_or counts k 0) (get_or after (slot_count + k) 0)) (range_with_len 0 (length counts))

-- the nodes from one to another are linked, each with the next
abbrev pub Chain : List ℕ → List ℕ → ℕ → List ℕ → ℕ → Type 0
Chain after before from [] until = (get_or after from 0 ≡ until) × (get_or before until 0 ≡ from)
Chain after before from (x ∷ xs) until = (get_or after from 0 ≡ x) × (get_or before x 0 ≡ from) × Chain after before x xs until

-- each is a number below `slot_count` that belongs to a list
abbrev pub Owned : ℕ → List ℕ → ℕ → List ℕ → Type 0
Owned slot_count owners k [] = Unit {0}
Owned slot_count owners k (x ∷ xs) = (x < slot_count) × (get_or owners x 0 ≡ k) × Owned slot_count owners k xs

-- a list stands in its ring
pub record IsRing (slot_count : ℕ) (after before owners : List ℕ) (k count : ℕ) (xs : List ℕ) : Type 0 where
  pub chain : Chain after before (slot_count + k) xs (slot_count + k)
  pub owned : Owned slot_count owners k xs
  pub distinct : Distinct xs
  pub counted : count ≡ length xs

-- each list stands in its ring
pub record IsLinked (slot_count : ℕ) (after before owners counts : List ℕ) (lists : List (List ℕ)) : Type 0 where
  pub small : slot_count ≤ 2 ^ 20
  pub few : length lists ≤ 2 ^ 20
  pub after_each : length after ≡ slot_count + length lists
  pub before_each : length before ≡ slot_count + length lists
  pub owned : length owners ≡ slot_count
  pub counted : length counts ≡ length lists
  pub each : (k : ℕ) → k < length lists → IsRing slot_count after before owners k (get_or counts k 0) (get_or lists k [])
