-- The numbers of a line.
use Rattle.std.specs.Prelude.{ℕ, List, ◌++◌, decimal}

-- a word, and a number
unfoldable pub number_text : List ℕ → ℕ → List ℕ
number_text word number = word ++ decimal number
