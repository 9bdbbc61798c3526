-- The lines of the console: that of a count.
use Rattle.std.specs.Prelude.{ℕ, List, ◌++◌, codes, decimal}

-- a name, a space, a number and an LF
abbrev pub count_line : List ℕ → ℕ → List ℕ
count_line name n = name ++ codes " " ++ decimal n ++ codes "\n"
