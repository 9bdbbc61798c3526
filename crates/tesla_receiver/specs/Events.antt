-- Histories that grow by events, and how one with a single ingest is finished.
use Rattle.std.specs.Prelude.{◌≡◌, ℕ, suc, ◌-◌, List, [], ◌∷◌, ◌++◌, length, map, replicate}
use Rattle.tesla_fitting.specs.declared.config.Config.{Config}
use Rattle.tesla_base.specs.declared.release.Head.{Head}
use Rattle.tesla_receiver.specs.Entries.{Entry}
use Rattle.tesla_receiver.specs.declared.history.Entry.TheVariants.{Taken, Ended}
use Rattle.tesla_state.specs.declared.replies.Reply.TheVariants.{Given, Over}
use Rattle.tesla_receiver.specs.Packets.{released}
use Rattle.tesla_receiver.specs.History.{Event, Takes, Ends, entry_of, arrivals_in, given_in}

-- the history after these events, each with its answer
abbrev pub after_events : Config → List Entry → List Event → List Entry
after_events cfg history [] = history
after_events cfg history (event ∷ events) = after_events cfg (history ++ entry_of cfg history event ∷ []) events

-- how many released packets wait to be taken
abbrev pub waiting_in : Config → List Entry → ℕ
waiting_in cfg history = length (released cfg (arrivals_in history)) - given_in history

-- the history after the end of ingest 0 and takes up to and with the first that is over: one for each packet that waits, and one more
abbrev pub finished : Config → List Entry → List Entry
finished cfg history = after_events cfg (after_events cfg history (Ends 0 ∷ [])) (replicate (suc (waiting_in cfg history)) (Takes 0))

-- a take of releaser 0 that gives the packet of this head and payload
abbrev pub giving : Head × List ℕ → Entry
giving p = Taken 0 (Given p.0 p.1)

-- a finished history adds the end, a take that gives for each packet that waits, and one that is over
pub record Finishes (cfg : Config) (history : List Entry) : Type 0 where
  pub given : List (Head × List ℕ)
  pub entries : finished cfg history ≡ history ++ Ended 0 ∷ (map giving given ++ Taken 0 Over ∷ [])
  pub count : length given ≡ waiting_in cfg history
