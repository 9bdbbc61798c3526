-- What a setup says, and its limits (RFC 4082, section 3.3). It has the commitment that receivers trust beforehand.
use Rattle.std.specs.Prelude.{ℕ, ◌<◌, ◌≤◌, ◌^◌, List, [], ◌∷◌, length}
use Rattle.std.specs.List.{AllByRecursion}
use Rattle.tesla_base.specs.Version.{most_chains, IsTagLength}
use Rattle.tesla_base.specs.declared.names.StreamId.{StreamId}
use Rattle.tesla_base.specs.declared.version.Version.{Version}
use Rattle.tesla_clock.specs.Schedule.{Times, IsSchedule}
use Rattle.tesla_commit.specs.declared.chain_row.ChainRow.{ChainRow}

-- the version of its frames, the stream, its intervals, the bytes of a tag, and a row for each key chain
pub record Parts : Type 0 where
  pub version : Version
  pub stream : StreamId
  pub times : Times
  pub tag_length : ℕ
  pub rows : List ChainRow

-- a delay of 1 to 4,096 intervals, and a commitment to a key of 32 bytes within the stream's intervals
pub record IsRow (last : ℕ) (row : ChainRow) : Type 0 where
  pub shortest : 1 ≤ row.delay
  pub longest : row.delay ≤ 4096
  pub within : row.index ≤ last

-- each delay is above the one before
abbrev pub DelaysRise : List ChainRow → Type 0
DelaysRise [] = Unit {0}
DelaysRise (row ∷ []) = Unit {0}
DelaysRise (row ∷ next ∷ rows) = (row.delay < next.delay) × DelaysRise (next ∷ rows)

-- the limits of each setup
pub record IsSetupOf (parts : Parts) : Type 0 where
  pub stream : parts.stream.0 < 2 ^ 64
  pub start : parts.times.start < 2 ^ 64
  pub times : IsSchedule parts.times
  pub tag_length : IsTagLength parts.version parts.tag_length
  pub some : 1 ≤ length parts.rows
  pub few : length parts.rows ≤ most_chains parts.version
  pub each : AllByRecursion (IsRow parts.times.last) parts.rows
  pub rise : DelaysRise parts.rows
