-- Histories of epochs that grow by events, and how one is finished. It has one ingest.
use Rattle.std.specs.Prelude.{ℕ, suc, true, List, [], ◌∷◌, ◌++◌, replicate, sum_by}
use Rattle.std.specs.List.{range_with_len}
use Rattle.tesla_fitting.specs.declared.config.Config.{Config}
use Rattle.tesla_receiver.specs.History.{Event, Takes, Ends}
use Rattle.tesla_receiver.specs.Events.{waiting_in}
use Rattle.tesla_rollover.specs.Epochs.{roll_entry_of}
use Rattle.tesla_rollover.specs.History.{RollEntry, config_at, epoch_count, history_at}

-- the history after these events, each with its answers, where there is memory for each epoch that is opened
abbrev pub roll_after_events : Config → List RollEntry → List Event → List RollEntry
roll_after_events cfg history [] = history
roll_after_events cfg history (event ∷ events) = roll_after_events cfg (history ++ roll_entry_of cfg history true event ∷ []) events

-- how many released packets of an epoch wait to be taken
abbrev pub waiting_at : Config → List RollEntry → ℕ → ℕ
waiting_at cfg history epoch = waiting_in (config_at cfg history epoch) (history_at cfg.ingests history epoch)

-- how many wait in all epochs
abbrev pub roll_waiting_in : Config → List RollEntry → ℕ
roll_waiting_in cfg history = sum_by (waiting_at cfg history) (range_with_len 0 (epoch_count history))

-- the history after the end of ingest 0 and takes up to and with the first that is over: one for each packet that waits, and one more
abbrev pub roll_finished : Config → List RollEntry → List RollEntry
roll_finished cfg history = roll_after_events cfg (roll_after_events cfg history (Ends 0 ∷ [])) (replicate (suc (roll_waiting_in cfg history)) (Takes 0))
