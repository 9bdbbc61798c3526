-- The form of record, as the usage line tells it.
use Rattle.std.specs.Prelude.{ℕ, List, [], ◌∷◌, codes}

-- the words of each form, in the order in which they are told
abbrev pub usages : List (List ℕ)
usages = codes "record SETUP LAG CAPACITY LINKS SINKS KEEP TAIL" ∷ []
