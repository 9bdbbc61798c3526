-- Numbered lines, and what is listed while records are taken.
use Rattle.std.specs.Prelude.{◌≡◌, ℕ, ◌<◌, suc, Option, Some, List, [], ◌∷◌, ◌++◌, length}
use Rattle.tesla_records.specs.Grammar.{Grammar}
use Rattle.tesla_records.specs.Records.{Outline, outline_of}
use Rattle.tesla_records.specs.Taken.{HoldsNoRefusal, IsTaken}
use Rattle.tesla_records.specs.declared.refusal.Refusal.{Refusal}

-- the lines of these records, numbered from n on
abbrev pub numbered : {E : Type 0} → (ℕ → E → List ℕ) → ℕ → List E → List ℕ
numbered line n [] = []
numbered line n (first ∷ others) = line n first ++ numbered line (suc n) others

-- the lines of an outline, told the number of the first record by what the head tells
abbrev pub outline_lines : {H R K : Type 0} → (ℕ → R → List ℕ) → (Option H → ℕ) → Outline H R K → List ℕ
outline_lines line number outline = numbered line (number outline.head) outline.records

module _ (G : Grammar) (line : ℕ → G.Record → List ℕ) (number : Option G.Head → ℕ) where
  -- the lines of the whole records of a file before the first refused place
  abbrev pub file_lines : List ℕ → List ℕ
  file_lines bytes = outline_lines line number (outline_of G bytes)

  -- these first records of a file were listed by this text, and the rest of it isn't taken yet
  pub record IsAt (bytes : List ℕ) (head : Option G.Head) (offset count : ℕ) (ahead : Option (List ℕ)) (text : List ℕ) : Type 0 where
    pub records : List G.Record
    pub rest : List ℕ
    pub ahead_is : ahead ≡ Some rest
    pub taken : IsTaken G bytes head records offset rest
    pub counted : length records ≡ count
    pub fresh : offset ≡ 0 → records ≡ []
    pub told : 0 < offset → (it : G.Head) × (head ≡ Some it)
    pub text_is : text ≡ numbered line (number head) records

  -- the file was listed up to its end, or to the first refused place
  pub record IsListed (bytes : List ℕ) (fault : Option (ℕ × Refusal G.Kind)) (text : List ℕ) : Type 0 where
    pub text_is : text ≡ file_lines bytes
    pub fault_is : (outline_of G bytes).fault ≡ fault

  -- a read failed: what was read of the file holds no refused place, and was listed
  pub record IsListedSoFar (bytes : List ℕ) (left : Option (List ℕ)) (text : List ℕ) : Type 0 where
    pub read : List ℕ
    pub rest : List ℕ
    pub left_is : left ≡ Some rest
    pub parts : bytes ≡ read ++ rest
    pub none : HoldsNoRefusal G read
    pub text_is : text ≡ file_lines read
