-- What a sender is opened with, and the first chain whose seed is wrong.
use Rattle.std.specs.Prelude.{◌≡◌, ℕ, ◌^◌, ◌<◌, ◌≤◌, ◌⊎◌, not, List, length, map, find, option_map, slice_index_or, Option, Some, None, Result, Ok, Err}
use Rattle.std.specs.List.{All, sum_by}
use Rattle.tesla_sender.specs.declared.refusal.SenderRefusal.{SenderRefusal}
use Rattle.tesla_sender.specs.declared.refusal.SenderRefusal.TheVariants.{NoMemory}
use Rattle.tesla_sender.specs.Made.{Chain}
use Rattle.tesla_sender.specs.Chains.{IsFresh, IsRefusedFor, Progress, chain_in, is_right, left_in, wrong_seed}
use Rattle.tesla_sender.specs.Stands.{State}

-- the first chain whose seed doesn't give the key of the setup
abbrev pub first_wrong : List Chain → Option Chain
first_wrong chains = find (λ chain. not (is_right chain)) chains

-- what is told of it
abbrev pub seeds_refused : List Chain → Option SenderRefusal
seeds_refused chains = option_map wrong_seed (first_wrong chains)

-- a sender with these chains is refused for want of memory, or since a seed is wrong
abbrev pub IsRefusal : List Chain → SenderRefusal → Type 0
IsRefusal chains refusal = (refusal ≡ NoMemory) ⊎ (seeds_refused chains ≡ Some refusal)

-- these chains, of which no key was made yet
pub record AreFresh (chains : List Chain) (now : List Progress) : Type 0 where
  pub same : map chain_in now ≡ chains
  pub reached : All (λ (chain : Progress). chain.reached ≡ 0) now

-- the most steps that the keys of a sender still take, none where it is not opened
abbrev pub left_of : {E : Type 0} → Result State E → ℕ
left_of (Ok sender) = sender.left
left_of (Err refusal) = 0

-- the same of its chains
abbrev pub left_of_all : {E : Type 0} → Result (List Progress) E → ℕ
left_of_all (Ok chains) = sum_by left_in chains
left_of_all (Err refusal) = 0

-- ---- chains that are opened on their own

-- what a contract sees of the opening of a chain: the chain, and what came of it once it was opened
pub record OpeningSeen : Type 0 where
  pub chain : Chain
  pub came : Option (Result Progress SenderRefusal)

abbrev pub opening_chain : OpeningSeen → Chain
opening_chain opening = opening.chain

-- a chain of so many keys can be opened, with a row of the key of this index
pub record IsOpenable (index last : ℕ) : Type 0 where
  pub least : 1 ≤ last
  pub most : last ≤ 2 ^ 20
  pub within : index ≤ last

-- the chain was opened, or it was refused
abbrev pub HasCome : Chain → Option (Result Progress SenderRefusal) → Type 0
HasCome chain None = ⊥
HasCome chain (Some (Ok now)) = IsFresh chain now
HasCome chain (Some (Err refusal)) = IsRefusedFor chain refusal

abbrev pub IsOpened : OpeningSeen → Type 0
IsOpened opening = HasCome opening.chain opening.came

-- what an opening is once its chain was opened
pub record OpensChain (before now : OpeningSeen) : Type 0 where
  pub chain : now.chain ≡ before.chain
  pub opened : IsOpened now

-- the same of each
abbrev pub AreOpened : List OpeningSeen → List OpeningSeen → Type 0
AreOpened before now = (length now ≡ length before) × ((k : ℕ) (d : OpeningSeen) → k < length before → OpensChain (slice_index_or before k d) (slice_index_or now k d))
