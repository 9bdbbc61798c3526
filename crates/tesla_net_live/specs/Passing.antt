-- Errors of the system's network that pass by themselves, by their numbers in Linux.
use Rattle.std.specs.Prelude.{List, [], ◌∷◌, ℤ, pos}

-- EPERM, EAGAIN, ENETDOWN, ENETUNREACH, ENOBUFS, ECONNREFUSED and EHOSTUNREACH
abbrev pub passing : List ℤ
passing = pos 1 ∷ pos 11 ∷ pos 100 ∷ pos 101 ∷ pos 105 ∷ pos 111 ∷ pos 113 ∷ []
