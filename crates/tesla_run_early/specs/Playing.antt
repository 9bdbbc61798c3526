-- What is written of each event that is played, and told of all.
use Rattle.std.specs.Prelude.{◌≡◌, ◌≤◌, ℕ, List, [], ◌++◌, codes}
use Rattle.tesla_fitting.specs.declared.config.Config.{Config}
use Rattle.tesla_front.specs.Lines.{count_line}
use Rattle.tesla_receiver.specs.Report.{report_of}
use Rattle.tesla_receiver.specs.Entries.{Entry}
use Rattle.tesla_early.specs.Stands.{EarlyState, EarlyStands}
use Rattle.tesla_early.specs.Counted.{early_count}
use Rattle.tesla_run_early.specs.Records.{early_record_in}
use Rattle.tesla_run_replay.specs.Playing.{EventRule, receiver_by, rule_by}
use Rattle.tesla_run_replay.specs.ReportText.{report_text}

-- how many promises are kept at most
abbrev pub promises : ℕ
promises = 4096

-- the lines that tell a history: its report, and how many arrivals were early
unfoldable pub early_text : List Entry → List ℕ
early_text history = report_text (report_of history) ++ count_line (codes "early") (early_count promises history)

-- what such a receiver of that configuration writes, the records of what its takes give and of its early arrivals, and tells
abbrev pub early_rule : Config → EventRule
early_rule cfg = rule_by (receiver_by cfg [] (early_record_in promises 0) early_text)

-- a receiver with room for so many promises stands for a history in which so many arrivals were early
pub record StandsFor (state : EarlyState) (accepted : ℕ) (history : List Entry) : Type 0 where
  pub stands : EarlyStands state history
  pub most : state.promises.most ≡ promises
  pub counted : accepted ≡ early_count promises history
  pub few : accepted ≤ state.receiver.calls
