-- What an arrival that is refused leaves as it was.
use Rattle.std.specs.Prelude.{◌≡◌, ℕ, ◌+◌, List, length}
use Rattle.tesla_fitting.specs.declared.config.Config.{Config}
use Rattle.tesla_fitting.specs.declared.verdict.Verdict.{Verdict}
use Rattle.tesla_receiver.specs.Entries.{Entry}
use Rattle.tesla_receiver.specs.History.{arrivals_in, given_in, has_end}
use Rattle.tesla_receiver.specs.Packets.{released}
use Rattle.tesla_receiver.specs.Report.{report_of}
use Rattle.tesla_receiver.specs.Stands.{holdings}
use Rattle.tesla_receiver.specs.Tips.{tip_of}
use Rattle.tesla_state.specs.Steps.{counted}

-- between two histories nothing changes but the counts, in which there is one arrival of this verdict more
pub record ChangesCountsAlone (cfg : Config) (before after : List Entry) (verdict : Verdict) : Type 0 where
  -- the newest key of each chain
  pub tips : (chain : ℕ) → tip_of cfg (arrivals_in after) chain ≡ tip_of cfg (arrivals_in before) chain
  -- the packets that are held
  pub held : holdings cfg (arrivals_in after) (given_in after) ≡ holdings cfg (arrivals_in before) (given_in before)
  -- the packets that are released, and how many of them were given
  pub releases : released cfg (arrivals_in after) ≡ released cfg (arrivals_in before)
  pub given : given_in after ≡ given_in before
  -- the ingests that have ended
  pub ended : (ingest : ℕ) → has_end after ingest ≡ has_end before ingest
  pub report : report_of after ≡ counted verdict (report_of before)
  pub entries : length after ≡ length before + 1
