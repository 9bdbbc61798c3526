-- What a receiver keeps. These are the newest keys, the packets that have a slot, those that wait to be given, which ingests have ended, and the counts.
use Rattle.std.specs.Prelude.{ℕ, Bool, List}
use Rattle.tesla_keys.specs.Tip.{Tip}
use Rattle.tesla_walks.specs.Holding.{Holding}
use Rattle.tesla_fitting.specs.declared.config.Config.{Config}
use Rattle.tesla_walks.specs.declared.release.Release.{Release}
use Rattle.tesla_state.specs.declared.report.Report.{Report}

-- what a contract sees of a receiver
pub record State : Type 0 where
  pub config : Config
  -- the newest key of each chain
  pub tips : List Tip
  -- the packets that have a slot, in order of arrival
  pub held : List Holding
  -- the released packets that weren't given yet, in order
  pub waiting : List Release
  -- which ingests have ended
  pub ended : List Bool
  pub counts : Report
  pub calls : ℕ
  -- how many entries its tables have room for, together
  pub reserved : ℕ
