-- The form of trace, as the usage line tells it.
use Rattle.std.specs.Prelude.{ℕ, List, codes}

-- its words
abbrev pub usage : List ℕ
usage = codes "trace SETUP LAG CAPACITY CAPTURE TRACE"
