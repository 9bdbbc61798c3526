-- Why a file is no capture or script, and at which place.
use Rattle.std.specs.Prelude.{◌≡◌, ◌≢◌, ◌⊎◌, ℕ, ◌+◌, ◌-◌, ◌^◌, ◌<◌, ◌≤◌, true, List, [], ◌∷◌, ◌++◌, length, take}
use Rattle.std.specs.List.{AllByRecursion}
use Rattle.std.specs.Int.{w16, to_be_bytes}
use Rattle.tesla_capture.specs.Grammar.{Grammar, file_text, limit}
use Rattle.tesla_capture.specs.declared.record.RecordKind.{RecordKind}
use Rattle.tesla_capture.specs.declared.record.RecordKind.TheVariants.{BadHead, BadKind, Truncated, TooLong, TooLarge}

-- a record of kind 1 tells this length, a number of two bytes, behind its kind and the eight bytes of its reading
pub record TellsLength (bytes : List ℕ) (n : ℕ) : Type 0 where
  pub reading : List ℕ
  pub more : List ℕ
  pub eight : length reading ≡ 8
  pub fits : n < 2 ^ 16
  pub spelled : bytes ≡ 1 ∷ reading ++ to_be_bytes w16 n ++ more

-- a record of kind 1 that isn't whole: its length isn't there yet, or is within the limit and its bytes aren't there yet
pub record IsCutCarrying (longest : ℕ) (bytes : List ℕ) : Type 0 where
  pub more : List ℕ
  pub begins : bytes ≡ 1 ∷ more
  pub short : (length bytes < 11) ⊎ ((n : ℕ) × TellsLength bytes n × (n ≤ longest) × (length bytes < 11 + n))

-- a record of kind 2 that isn't whole: it is timed, and its reading isn't there yet
pub record IsCutBare (G : Grammar) (bytes : List ℕ) : Type 0 where
  pub more : List ℕ
  pub begins : bytes ≡ 2 ∷ more
  pub timed : G.timed ≡ true
  pub short : length bytes < 9

-- a record that isn't whole
abbrev pub IsCut : Grammar → List ℕ → Type 0
IsCut G bytes = IsCutCarrying G.longest bytes ⊎ IsCutBare G bytes

-- why the rest of a file from the place of a record on is refused there
abbrev pub IsWhy : Grammar → RecordKind → ℕ → List ℕ → Type 0
IsWhy G BadHead offset rest = ⊥
IsWhy G BadKind offset rest = (b : ℕ) × (more : List ℕ) × (rest ≡ b ∷ more) × (b ≢ 1) × (b ≢ 2) × (offset < limit)
IsWhy G TooLong offset rest = (n : ℕ) × TellsLength rest n × (G.longest < n) × (offset + 11 ≤ limit)
IsWhy G Truncated offset rest = (offset + length rest < limit) × IsCut G rest
IsWhy G TooLarge offset rest = (limit ≤ offset + length rest) × (0 < length rest) × ((offset ≡ limit) ⊎ IsCut G (take (limit - offset) rest))

-- behind whole records comes the rest that is refused
pub record StopsAfter (G : Grammar) (bytes : List ℕ) (records : List G.Record) (offset : ℕ) (kind : RecordKind) : Type 0 where
  pub limits : AllByRecursion G.IsRecord records
  pub rest : List ℕ
  pub spelled : bytes ≡ file_text G records ++ rest
  pub offset_is : offset ≡ length (file_text G records)
  pub why : IsWhy G kind offset rest

-- the file is refused at that place, after these records
abbrev pub IsRefused : (G : Grammar) → List ℕ → List G.Record → ℕ → RecordKind → Type 0
IsRefused G bytes records offset BadHead = (offset ≡ 0) × (records ≡ []) × (take 5 bytes ≢ G.head)
IsRefused G bytes records offset BadKind = StopsAfter G bytes records offset BadKind
IsRefused G bytes records offset TooLong = StopsAfter G bytes records offset TooLong
IsRefused G bytes records offset Truncated = StopsAfter G bytes records offset Truncated
IsRefused G bytes records offset TooLarge = StopsAfter G bytes records offset TooLarge
