-- A sender's chain as contracts see it, and when its seed is right.
use Rattle.std.specs.Prelude.{◌≡◌, ℕ, zero, suc, ◌+◌, ◌^◌, ◌<◌, ◌≤◌, Bool, true, false, ◌⊎◌, List, [], ◌∷◌, ◌++◌, Result, Ok, Err, bytes_eq, min}
use Rattle.std.specs.List.{sum_by}
use Rattle.circular_buffer.specs.Buffer.{Buffer, buffer, keep_last}
use Rattle.tesla_base.specs.Tag.{wide_tag}
use Rattle.tesla_base.specs.declared.names.Key.{Key}
use Rattle.tesla_base.specs.declared.names.Name.{Name}
use Rattle.tesla_base.specs.declared.names.WideTag.{WideTag}
use Rattle.tesla_commit.specs.Parts.{Parts}
use Rattle.tesla_prf.specs.Keys.{mac_of}
use Rattle.tesla_sender.specs.Cost.{steps_along}
use Rattle.tesla_sender.specs.Made.{Chain, key_of, row_of}
use Rattle.tesla_sender.specs.declared.refusal.SenderRefusal.{SenderRefusal}
use Rattle.tesla_sender.specs.declared.refusal.SenderRefusal.TheVariants.{WrongSeed, NoMemory}
use Rattle.tesla_chain.specs.Traversal.{Traversing}

-- how far a chain has come: its keys of index 1 to `reached` were made, the MAC key of interval `tagging` is
-- prepared, none where that is 0, the other keys still take at most `left` steps, and its tables, the traversal's
-- and the ring of the last keys, have room for `reserved` entries
pub record Progress : Type 0 where
  pub chain : Chain
  pub reached : ℕ
  pub tagging : ℕ
  pub left : ℕ
  pub reserved : ℕ

-- the keys of index 1 to n
unfoldable pub keys_to : ℕ → Key → ℕ → List Key
keys_to last seed zero = []
keys_to last seed (suc n) = keys_to last seed n ++ key_of last seed (suc n) ∷ []

-- the keys of the next n indexes
unfoldable pub keys_after : ℕ → Key → ℕ → ℕ → List Key
keys_after last seed from zero = []
keys_after last seed from (suc n) = keys_after last seed from n ++ key_of last seed (from + suc n) ∷ []

-- what becomes of a traversal and of the ring of the last keys once so many keys more were made
pub record HasKept (count : ℕ) (before after : Traversing) (ring now : Buffer Key) : Type 0 where
  pub seed : after.seed ≡ before.seed
  pub last : after.last ≡ before.last
  pub given : after.given ≡ before.given + count
  pub reserved : after.reserved ≡ before.reserved
  pub kept : now ≡ buffer (keep_last ring.capacity (ring.items ++ keys_after before.last before.seed before.given count)) ring.capacity

-- what is true of each chain: its traversal gave the keys of index 1 to `reached`, of which the last `delay + 2`
-- are kept
pub record IsUsed (delay last : ℕ) (traversal : Traversing) (kept : Buffer Key) (reached tagging : ℕ) (prepared : Key) : Type 0 where
  pub given : traversal.given ≡ reached
  pub whole : traversal.last ≡ last
  pub some : 1 ≤ traversal.last
  pub within : reached ≤ traversal.last
  pub most : traversal.last ≤ 2 ^ 20
  pub capacity : kept.capacity ≡ delay + 2
  pub keys : kept.items ≡ keep_last (delay + 2) (keys_to traversal.last traversal.seed reached)
  pub mac : 0 < tagging → prepared ≡ mac_of (key_of traversal.last traversal.seed tagging)

-- the seed gives the key of the setup
abbrev pub is_right : Chain → Bool
is_right chain = bytes_eq (key_of chain.last chain.seed chain.row.index).0 chain.row.key.0

-- what is told of a chain whose seed doesn't
abbrev pub wrong_seed : Chain → SenderRefusal
wrong_seed chain = WrongSeed (record { 0 = chain.number }) (key_of chain.last chain.seed chain.row.index)

-- a chain of which no key was made yet
pub record IsFresh (of_chain : Chain) (now : Progress) : Type 0 where
  pub chain : now.chain ≡ of_chain
  pub reached : now.reached ≡ 0
  pub right : is_right of_chain ≡ true

-- a chain is refused for want of memory, or since its seed is wrong
abbrev pub IsRefusedFor : Chain → SenderRefusal → Type 0
IsRefusedFor chain refusal = (refusal ≡ NoMemory) ⊎ ((is_right chain ≡ false) × (refusal ≡ wrong_seed chain))

-- the most steps that the keys of a chain still take, none where it is not opened
abbrev pub left_after : {E : Type 0} → Result Progress E → ℕ
left_after (Ok chain) = chain.left
left_after (Err refusal) = 0

-- ---- all the chains of a sender

abbrev pub chain_in : Progress → Chain
chain_in now = now.chain

abbrev pub left_in : Progress → ℕ
left_in now = now.left

-- the most steps in which the keys up to that of the interval are made
abbrev pub steps_to : ℕ → Progress → ℕ
steps_to interval now = steps_along now.reached interval now.chain

abbrev pub reserved_in : Progress → ℕ
reserved_in now = now.reserved

-- how many entries the table of the chains, which has room for so many, and the tables of each chain have room for
abbrev pub reserved_by : ℕ → List Progress → ℕ
reserved_by room chains = room + sum_by reserved_in chains

-- a chain that can go on to the interval
pub record IsReady (interval : ℕ) (now : Progress) : Type 0 where
  pub later : now.reached ≤ interval
  pub within : interval ≤ now.chain.last

-- a chain with the keys up to that of the interval
abbrev pub HasReached : ℕ → Progress → Type 0
HasReached interval now = now.reached ≡ interval

-- a chain whose keys were made up to that of the interval, or up to that of the next one; none comes after its last one
pub record HasMade (interval : ℕ) (now : Progress) : Type 0 where
  pub least : min interval now.chain.last ≤ now.reached
  pub most : now.reached ≤ min (interval + 1) now.chain.last

-- a chain with the key of the interval, which isn't after its last one
pub record CanTag (interval : ℕ) (now : Progress) : Type 0 where
  pub within : interval ≤ now.chain.last
  pub made : HasMade interval now

-- a chain with the MAC key of the interval too
pub record IsPrepared (interval : ℕ) (now : Progress) : Type 0 where
  pub within : interval ≤ now.chain.last
  pub made : HasMade interval now
  pub tagging : now.tagging ≡ interval

-- the tag of a message on a chain
unfoldable pub tag_made : Parts → Name → List ℕ → Chain → WideTag
tag_made setup name payload chain = wide_tag (row_of setup name payload chain).tag

-- the chains are numbered from `number` on
abbrev pub AreNumbered : ℕ → List Chain → Type 0
AreNumbered number [] = Unit {0}
AreNumbered number (chain ∷ chains) = (chain.number ≡ number) × AreNumbered (number + 1) chains
