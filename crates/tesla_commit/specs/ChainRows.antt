-- Which setup rows of chains make, or the first refused line. A length of tags and the rows are judged, and a refused line has its kind.
use Rattle.std.specs.Prelude.{ℕ, ◌+◌, List, [], ◌∷◌, Result, Ok, Err, nat_lt, nat_le, ◌==◌, ◌||◌, if◌then◌else◌}
use Rattle.tesla_base.specs.Version.{most_chains, shortest_tag, longest_tag}
use Rattle.tesla_base.specs.declared.names.StreamId.{StreamId}
use Rattle.tesla_base.specs.declared.version.Version.{Version}
use Rattle.tesla_base.specs.declared.version.Version.TheVariants.{One, Two}
use Rattle.tesla_clock.specs.Schedule.{Times}
use Rattle.tesla_commit.specs.JudgedLines.{◌>>=◌, at, within}
use Rattle.tesla_commit.specs.Parts.{Parts}
use Rattle.tesla_commit.specs.declared.chain_row.ChainRow.{ChainRow}
use Rattle.tesla_commit.specs.declared.refusal.SetupKind.{SetupKind}
use Rattle.tesla_commit.specs.declared.refusal.SetupKind.TheVariants.{NoChain, TooManyChains, DelaysNotRising, IndexPastLast, LimitPassed}

-- a row that comes after one with that delay, 0 where none comes before
abbrev pub row_judged : ℕ → ℕ → ChainRow → Result ChainRow SetupKind
row_judged last before row =
    if nat_lt row.delay 1 || nat_lt 4096 row.delay then Err LimitPassed
    else if nat_le row.delay before then Err DelaysNotRising
    else if nat_lt last row.index then Err IndexPastLast
    else Ok row

-- the line of the first chain, row 0: the length of tags stands on line 6 of version 2
abbrev pub first_line : Version → ℕ
first_line One = 6
first_line Two = 7

-- the line past that of the last chain that there may be
abbrev pub end_line : Version → ℕ
end_line version = first_line version + most_chains version

-- rows from that line on
unfoldable pub rows_judged : Version → ℕ → ℕ → ℕ → List ChainRow → Result (List ChainRow) (ℕ × SetupKind)
rows_judged version last line before [] = if line == first_line version then Err (line, NoChain) else Ok []
rows_judged version last line before (row ∷ rows) =
    if line == end_line version then Err (line, TooManyChains)
    else at line (row_judged last before row) >>= λ first. rows_judged version last (line + 1) first.delay rows >>= λ others. Ok (first ∷ others)

-- the setup of these parts
unfoldable pub parts_judged : Version → StreamId → Times → ℕ → List ChainRow → Result Parts (ℕ × SetupKind)
parts_judged version stream times size rows = do
  tag ← at 6 (within (shortest_tag version) (longest_tag version) size)
  each ← rows_judged version times.last (first_line version) 0 rows
  Ok (record { version = version; stream = stream; times = times; tag_length = tag; rows = each })
