-- A station whose counts are read while it works.
use Rattle.std.specs.Prelude.{◌≡◌, ℕ, List, [], ◌∷◌, ◌++◌}
use Rattle.tesla_receiver.specs.Entries.{Entry}
use Rattle.tesla_receiver.specs.Report.{report_of}
use Rattle.tesla_state.specs.declared.report.Report.{Report}
use Rattle.tesla_counters.specs.Counts.{CountersId}
use Rattle.tesla_recorder.specs.watched.Chains.{released_by_chain}

-- the counts of a report but for its arrivals, in the order of its lines
abbrev pub counts_in : Report → List ℕ
counts_in report =
    report.malformed ∷ report.foreign ∷ report.misfit ∷ report.future ∷ report.badkey ∷ report.late ∷ report.repeat ∷ report.full ∷ report.kept ∷ report.keys ∷ report.given ∷ []

-- the counts of a history: those of its report, and behind them how many packets were released on each of the eight chains that a setup has at most
abbrev pub counts_of : List Entry → List ℕ
counts_of history = counts_in (report_of history) ++ released_by_chain 8 history

-- what a contract sees of a station whose counts are read: the station, which counts these are, and how they stand
pub record WatchedState (V : Type 0) : Type 0 where
  pub station : V
  pub counters : CountersId
  pub counts : List ℕ

-- it stands for a history: the station does, and the counts are those of the history
pub record WatchedStands {V : Type 0} (stands : V → List Entry → Type 0) (state : WatchedState V) (history : List Entry) : Type 0 where
  pub stood : stands state.station history
  pub counted : state.counts ≡ counts_of history
