-- Setups in which two chains have the same commitment. Also where a setup's text has its chains.
use Rattle.std.specs.Prelude.{◌≡◌, ℕ, ◌+◌, Some, codes}
use Rattle.tesla_base.specs.declared.version.Version.{Version}
use Rattle.tesla_base.specs.declared.version.Version.TheVariants.{One, Two}
use Rattle.tesla_commit.specs.Equal.{first_equal}
use Rattle.tesla_commit.specs.Parts.{Parts}
use Rattle.tesla_front.specs.OutcomeView.{OutcomeView, Refused}
use Rattle.tesla_front.specs.Refusal.{refused_line}

-- the line of a setup's text that has its first chain
abbrev pub first_row : Version → ℕ
first_row One = 6
first_row Two = 7

-- the first chain whose commitment a chain before has is told, with its line
pub record RefusesEqual (setup : Parts) (outcome : OutcomeView) : Type 0 where
  pub chain : ℕ
  pub equals : first_equal setup.rows ≡ Some chain
  pub told : outcome ≡ Refused 2 (refused_line (codes "setup") (first_row setup.version + chain) (codes "EqualCommitments"))
