-- The counts of a followed history, which stand beside a follower.
use Rattle.std.specs.Prelude.{ℕ, ◌+◌, ◌-◌, List, [], ◌∷◌, ◌++◌, length, map, count_by, Option, Some, None, slice_index_or, slice_set}
use Rattle.std.specs.List.{range_with_len}
use Rattle.tesla_fitting.specs.declared.config.Config.{Config}
use Rattle.tesla_receiver.specs.declared.history.Entry.TheVariants.{Arrived, Taken, Ended}
use Rattle.tesla_follow.specs.declared.answers.FollowReply.TheVariants.{Released, Early, Empty, Over}
use Rattle.tesla_follow.specs.Counted.{report_over}
use Rattle.tesla_follow.specs.Followed.{Followed, open_epochs}
use Rattle.tesla_follow.specs.History.{FollowEntry, followed}
use Rattle.tesla_recorder.specs.watched.Chains.{is_chain}
use Rattle.tesla_recorder.specs.watched.Watched.{counts_in}

-- the chain on which a packet was released that a take gave; a message that was accepted on arrival has none
abbrev pub chain_in : FollowEntry → Option ℕ
chain_in (Taken releaser (Released epoch head payload next)) = Some head.chain
chain_in (Taken releaser (Early epoch head payload)) = None
chain_in (Taken releaser Empty) = None
chain_in (Taken releaser Over) = None
chain_in (Arrived arrival) = None
chain_in (Ended ingest) = None

-- how many packets that were released on this chain a history gave, over all epochs
abbrev pub released_on : ℕ → List FollowEntry → ℕ
released_on chain history = count_by (λ entry. is_chain chain (chain_in entry)) history

-- how many for each of the eight chains that a setup has at most
abbrev pub released_by_chain : List FollowEntry → List ℕ
released_by_chain history = map (λ chain. released_on chain history) (range_with_len 0 8)

-- these counts by chain with one packet more, if there is one
abbrev pub with_release : Option ℕ → List ℕ → List ℕ
with_release None by_chain = by_chain
with_release (Some chain) by_chain = slice_set by_chain chain (slice_index_or by_chain chain 0 + 1)

-- the number of the newest epoch, how many epochs are open, how many records were of messages that were accepted on arrival, how many promised messages found no place, and how many packets were dropped
abbrev pub epoch_counts : Followed → List ℕ
epoch_counts it = (length it.epochs - 1) ∷ length (open_epochs it) ∷ it.early ∷ it.unqueued ∷ it.dropped ∷ []

-- the counts of all that events made, told those by chain: first the eleven of the report over all epochs, but for its arrivals
abbrev pub counts_with : Followed → List ℕ → List ℕ
counts_with it by_chain = counts_in (report_over it.epochs) ++ by_chain ++ epoch_counts it

-- the counts of a history
abbrev pub counts_of : Config → List FollowEntry → List ℕ
counts_of cfg history = counts_with (followed cfg history) (released_by_chain history)
