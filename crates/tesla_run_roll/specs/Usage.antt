-- The form of roll, as the usage line tells it.
use Rattle.std.specs.Prelude.{ℕ, List, codes}

-- its words
abbrev pub usage : List ℕ
usage = codes "roll SETUP LAG CAPACITY CAPTURE OUT"
