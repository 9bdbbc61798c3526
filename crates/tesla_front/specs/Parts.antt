-- The parts of a word, one after another.
use Rattle.std.specs.Prelude.{ℕ, ◌<◌, List, [], ◌∷◌, ◌++◌, length, map}
use denote.Ref.{Bor}
use Rattle.tesla_front.specs.Words.{IsName}
use Rattle.tesla_front.specs.Names.{IsNoneOf}

-- the bytes of texts
abbrev pub texts_of : List (Bor (List ℕ)) → List (List ℕ)
texts_of texts = map (λ text. text.now) texts

-- the name may follow these: it is a name and none of them, and they have room for it
pub record Follows (before : List (List ℕ)) (name : List ℕ) : Type 0 where
  pub named : IsName name
  pub new : IsNoneOf name before
  pub room : length before < 32

-- the names may follow these, one after another
abbrev pub Follow : List (List ℕ) → List (List ℕ) → Type 0
Follow before [] = Unit {0}
Follow before (name ∷ more) = Follows before name × Follow (before ++ name ∷ []) more
