-- What the code finds of the bytes that were read of a record.
use Rattle.std.specs.Prelude.{◌+◌, ◌≤◌, length}
use Rattle.tesla_records.specs.Grammar.{Parsed, Awaits, Whole, Bad}
use Rattle.tesla_capture.specs.Grammar.{Grammar}
use Rattle.tesla_capture.specs.Parsing.{bare_size}
use Rattle.tesla_capture.specs.declared.judging.Found.{Found}
use Rattle.tesla_capture.specs.declared.judging.Found.TheVariants as found
use Rattle.tesla_capture.specs.declared.record.RecordFault.{RecordFault}

-- what was found of a record is what its bytes tell
abbrev pub parse_found : (G : Grammar) → Found → Parsed G.Record RecordFault
parse_found G found.Short = Awaits
parse_found G (found.Wrong fault) = Bad fault
parse_found G (found.Carrying reading bytes) = Whole (G.carrying reading bytes.now) (11 + length bytes.now)
parse_found G (found.Bare reading) = Whole (G.bare reading) (bare_size G.timed)

-- a record of kind 1 that was found carries no more than it may
abbrev pub OnCarrying : Grammar → Found → Type 0
OnCarrying G (found.Carrying reading bytes) = length bytes.now ≤ G.longest
OnCarrying G found.Short = Unit {0}
OnCarrying G (found.Wrong fault) = Unit {0}
OnCarrying G (found.Bare reading) = Unit {0}
