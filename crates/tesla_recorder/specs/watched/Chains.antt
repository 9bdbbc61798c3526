-- The packets that a history gave, by the chain on which they were released.
use Rattle.std.specs.Prelude.{◌≡◌, ℕ, ◌==◌, Bool, false, List, length, map, count_by, Option, Some, None}
use Rattle.std.specs.List.{range_with_len, sum}
use Rattle.tesla_fitting.specs.declared.config.Config.{Config}
use Rattle.tesla_receiver.specs.History.{IsLegal, given_in}
use Rattle.tesla_receiver.specs.Entries.{Entry}
use Rattle.tesla_receiver.specs.declared.history.Entry.TheVariants.{Arrived, Taken, Ended}
use Rattle.tesla_state.specs.declared.replies.Reply.TheVariants.{Given, Empty, Over}

-- the chain on which a packet was released that a take gave: the least that proved it
abbrev pub chain_in : Entry → Option ℕ
chain_in (Taken releaser (Given head payload)) = Some head.chain
chain_in (Taken releaser Empty) = None
chain_in (Taken releaser Over) = None
chain_in (Arrived arrival) = None
chain_in (Ended ingest) = None

abbrev pub is_chain : ℕ → Option ℕ → Bool
is_chain chain None = false
is_chain chain (Some other) = other == chain

-- how many packets that were released on this chain a history gave
abbrev pub released_on : ℕ → List Entry → ℕ
released_on chain history = count_by (λ entry. is_chain chain (chain_in entry)) history

-- how many for each of the first chains, so many of them
abbrev pub released_by_chain : ℕ → List Entry → List ℕ
released_by_chain chains history = map (λ chain. released_on chain history) (range_with_len 0 chains)

-- the packets that a legal history gave are those of the chains of its setup together
abbrev pub ChainsAddUp : Type 0
ChainsAddUp = (cfg : Config) (history : List Entry) → IsLegal cfg history → sum (released_by_chain (length cfg.setup.rows) history) ≡ given_in history
