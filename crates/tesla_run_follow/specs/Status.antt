-- What STATUS of follow holds.
use Rattle.std.specs.Prelude.{List, [], ◌∷◌, codes}
use Rattle.tesla_desk.specs.Outside.{Page}
use Rattle.tesla_fitting.specs.declared.config.Config.{Config}
use Rattle.tesla_follow.specs.History.{FollowEntry}
use Rattle.tesla_follow_station.specs.Counts.{counts_of}
use Rattle.tesla_run_receive.specs.watch.Lines.{Columns, counted_at}
use Rattle.tesla_run_receive.specs.watch.Written.{HoldsLines}

-- a line has a count for each of eight chains, and behind them the number of the newest epoch, how many epochs are open, how many records were of messages that were accepted on arrival, how many promised messages found no place, and how many packets were dropped
abbrev pub follow_columns : Columns
follow_columns = record { chains = 8; names = codes "epoch" ∷ codes "open" ∷ codes "early" ∷ codes "unqueued" ∷ codes "dropped" ∷ [] }

-- STATUS holds lines in which no count falls, and the last has the counts of the whole history. Where it failed it holds a prefix of such lines
abbrev pub HoldsStatus : Config → List FollowEntry → Page → Type 0
HoldsStatus cfg history = HoldsLines follow_columns (counted_at 8 (counts_of cfg history))
