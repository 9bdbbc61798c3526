-- What was written of a text, and what is held and not written.
use Rattle.std.specs.Prelude.{◌≡◌, ℕ, Option, Some, List, ◌++◌}
use Rattle.tesla_front.specs.Files.{IsPrefix}

-- what was written, where it is told, and then what is held are this text
abbrev pub HoldsText : Option (List ℕ) → List ℕ → List ℕ → Type 0
HoldsText written held text = (done : List ℕ) → written ≡ Some done → done ++ held ≡ text

-- what was written, where it is told, and then what is held are a prefix of this text
abbrev pub HoldsPrefix : Option (List ℕ) → List ℕ → List ℕ → Type 0
HoldsPrefix written held text = (done : List ℕ) → written ≡ Some done → IsPrefix text (done ++ held)
