-- Why a file isn't in its grammar, and at which place.
use Rattle.std.specs.Prelude.{◌≡◌, ◌≢◌, ℕ, ◌+◌, ◌-◌, ◌<◌, ◌≤◌, List, [], ◌++◌, length, take, Option, Some, None}
use Rattle.std.specs.List.{AllByRecursion}
use Rattle.tesla_records.specs.Grammar.{Grammar, Awaits, Bad, HeadIs, file_text, limit}
use Rattle.tesla_records.specs.declared.refusal.Refusal.{Refusal}
use Rattle.tesla_records.specs.declared.refusal.Refusal.TheVariants.{BadHead, Truncated, TooLarge, BadRecord}

-- why the rest of a file from the place of a record on is refused there
abbrev pub IsWhy : (G : Grammar) → Refusal G.Kind → ℕ → List ℕ → Type 0
IsWhy G BadHead offset rest = ⊥
IsWhy G Truncated offset rest = (offset + length rest < limit) × (0 < length rest) × (G.parse rest ≡ Awaits)
IsWhy G TooLarge offset rest = (limit ≤ offset + length rest) × (0 < length rest) × (G.parse (take (limit - offset) rest) ≡ Awaits)
IsWhy G (BadRecord kind) offset rest = G.parse (take (limit - offset) rest) ≡ Bad kind

-- behind the head and whole records comes the rest that is refused
pub record StopsAfter (G : Grammar) (bytes : List ℕ) (head : G.Head) (records : List G.Record) (offset : ℕ) (refusal : Refusal G.Kind) : Type 0 where
  pub head_limits : G.IsHead head
  pub limits : AllByRecursion G.IsRecord records
  pub rest : List ℕ
  pub spelled : bytes ≡ file_text G head records ++ rest
  pub offset_is : offset ≡ length (file_text G head records)
  pub within : offset ≤ limit
  pub why : IsWhy G refusal offset rest

-- the same, told the head where there is one
abbrev pub StopsBehind : (G : Grammar) → List ℕ → Option G.Head → List G.Record → ℕ → Refusal G.Kind → Type 0
StopsBehind G bytes None records offset refusal = ⊥
StopsBehind G bytes (Some head) records offset refusal = StopsAfter G bytes head records offset refusal

-- the file is refused at that place, after this head and these records
abbrev pub IsRefused : (G : Grammar) → List ℕ → Option G.Head → List G.Record → ℕ → Refusal G.Kind → Type 0
IsRefused G bytes head records offset BadHead =
    (offset ≡ 0) × (head ≡ None) × (records ≡ []) × ((any : G.Head) → G.parse_head bytes ≢ HeadIs any)
IsRefused G bytes head records offset Truncated = StopsBehind G bytes head records offset Truncated
IsRefused G bytes head records offset TooLarge = StopsBehind G bytes head records offset TooLarge
IsRefused G bytes head records offset (BadRecord kind) = StopsBehind G bytes head records offset (BadRecord kind)
