-- Records taken from the start of a file, and bytes without a refused place.
use Rattle.std.specs.Prelude.{◌≡◌, ◌⊎◌, ℕ, List, ◌++◌, length, Option, Some, None}
use Rattle.tesla_records.specs.Grammar.{Grammar, AwaitsHead}
use Rattle.tesla_records.specs.Records.{outline_of, outline_at, with_head, with_records}
use Rattle.tesla_records.specs.declared.refusal.Refusal.{Refusal}
use Rattle.tesla_records.specs.declared.refusal.Refusal.TheVariants.{Truncated}

-- this head, where it was reached, and these records were taken from the start of the file, and the rest of it stands at the place: whatever follows the front is read on from there
pub record IsTaken (G : Grammar) (bytes : List ℕ) (head : Option G.Head) (records : List G.Record) (offset : ℕ) (rest : List ℕ) : Type 0 where
  pub prefix : List ℕ
  pub whole : bytes ≡ prefix ++ rest
  pub size : length prefix ≡ offset
  pub unread : offset ≡ 0 → head ≡ None
  pub outline : (more : List ℕ) → outline_of G (prefix ++ more) ≡ with_head head (with_records records (outline_at G offset more))

-- no place is refused, or that of a last record that isn't whole
abbrev pub IsAtMostCut : {K : Type 0} → Option (ℕ × Refusal K) → Type 0
IsAtMostCut None = Unit {0}
IsAtMostCut (Some fault) = fault.1 ≡ Truncated

-- the bytes hold no refused place: they are a part of the head, or at most their last record isn't whole, so that a longer file may go on
abbrev pub HoldsNoRefusal : Grammar → List ℕ → Type 0
HoldsNoRefusal G bytes = (G.parse_head bytes ≡ AwaitsHead) ⊎ IsAtMostCut (outline_of G bytes).fault

-- the file was read up to what is left of it: what was read holds no refused place, and has this head and these whole records
pub record IsReadUpTo (G : Grammar) (bytes left : List ℕ) (head : Option G.Head) (records : List G.Record) : Type 0 where
  pub read : List ℕ
  pub whole : bytes ≡ read ++ left
  pub unrefused : HoldsNoRefusal G read
  pub head_is : (outline_of G read).head ≡ head
  pub records_are : (outline_of G read).records ≡ records
