-- Lists of names in one word.
use Rattle.std.specs.Prelude.{◌≡◌, ◌≢◌, ◌==◌, Bool, false, ℕ, ◌≤◌, List, [], ◌∷◌, ◌++◌, length, codes}
use Rattle.std.specs.List.{list_any}
use Rattle.tesla_front.specs.Words.{IsName}

-- a comma
abbrev pub is_comma : ℕ → Bool
is_comma b = b == 44

-- the names with a comma between two
abbrev pub joined : List (List ℕ) → List ℕ
joined [] = []
joined (name ∷ []) = name
joined (name ∷ other ∷ more) = name ++ (codes "," ++ joined (other ∷ more))

-- a name that may stand in a list: it is not empty, not the console's, and has no comma
pub record IsListName (name : List ℕ) : Type 0 where
  pub named : IsName name
  pub whole : list_any is_comma name ≡ false

-- each is such a name
abbrev pub AreListNames : List (List ℕ) → Type 0
AreListNames [] = Unit {0}
AreListNames (name ∷ more) = IsListName name × AreListNames more

-- the name is none of the others
abbrev pub IsNoneOf : List ℕ → List (List ℕ) → Type 0
IsNoneOf name [] = Unit {0}
IsNoneOf name (other ∷ more) = (name ≢ other) × IsNoneOf name more

-- no two are the same
abbrev pub AreDistinct : List (List ℕ) → Type 0
AreDistinct [] = Unit {0}
AreDistinct (name ∷ more) = IsNoneOf name more × AreDistinct more

-- the word is these names with a comma between two
pub record AreNames (word : List ℕ) (names : List (List ℕ)) : Type 0 where
  pub spelled : word ≡ joined names
  pub each : AreListNames names
  pub distinct : AreDistinct names
  pub some : 1 ≤ length names
  pub few : length names ≤ 32
