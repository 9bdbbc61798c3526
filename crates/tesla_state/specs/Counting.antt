-- The counts of verdicts: where each stands in a report. Also that each can be one greater.
use Rattle.std.specs.Prelude.{ℕ, ◌<◌}
use Rattle.tesla_state.specs.declared.report.Report.{Report}
use Rattle.tesla_fitting.specs.declared.verdict.Verdict.{Verdict}
use Rattle.tesla_fitting.specs.declared.verdict.Verdict.TheVariants.{Malformed, Foreign, Misfit, Future, BadKey, Late, Repeat, Full, Kept, Keys}

-- the place of a verdict in a report
abbrev pub line_of : Verdict → ℕ
line_of Malformed = 1
line_of (Foreign stream) = 2
line_of Misfit = 3
line_of (Future bound) = 4
line_of (BadKey chain) = 5
line_of Late = 6
line_of Repeat = 7
line_of Full = 8
line_of (Kept chains) = 9
line_of Keys = 10

-- no count is at the bound, or above it
pub record AreBelow (bound : ℕ) (r : Report) : Type 0 where
  pub arrivals : r.arrivals < bound
  pub malformed : r.malformed < bound
  pub foreign : r.foreign < bound
  pub misfit : r.misfit < bound
  pub future : r.future < bound
  pub badkey : r.badkey < bound
  pub late : r.late < bound
  pub repeat : r.repeat < bound
  pub full : r.full < bound
  pub kept : r.kept < bound
  pub keys : r.keys < bound
