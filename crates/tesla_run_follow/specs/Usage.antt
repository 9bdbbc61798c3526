-- The form of follow, as the usage line tells it.
use Rattle.std.specs.Prelude.{ℕ, List, [], ◌∷◌, codes}

-- the words of each form, in the order in which they are told
abbrev pub usages : List (List ℕ)
usages = codes "follow SETUP LAG CAPACITY LINKS SINKS STATUS EVERY" ∷ []
