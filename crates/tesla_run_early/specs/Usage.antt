-- The form of early, as the usage line tells it.
use Rattle.std.specs.Prelude.{ℕ, List, codes}

-- its words
abbrev pub usage : List ℕ
usage = codes "early SETUP LAG CAPACITY CAPTURE OUT"
