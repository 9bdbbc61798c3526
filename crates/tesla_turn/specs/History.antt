-- The history of a value that threads share, and one pass's calls in it.
use Rattle.std.specs.Prelude.{◌≡◌, ℕ, ◌==◌, ◌<◌, ◌≤◌, ltb, List, [], ◌∷◌, ◌++◌, map, length, slice_index_or, slice_set, Option, Some, None, if◌then◌else◌}
use Rattle.tesla_turn.specs.declared.view.Call.{Call}

module _ {E : Type 0} where
  abbrev pub entry_of : Call E → E
  entry_of c = c.entry

  abbrev pub entries : List (Call E) → List E
  entries h = map entry_of h

  -- the calls of the pass k, in their order
  abbrev pub calls_by : ℕ → List (Call E) → List E
  calls_by k [] = []
  calls_by k (c ∷ h) = if c.by == k then c.entry ∷ calls_by k h else calls_by k h

  -- a list by number: the calls of the pass k where they are known
  abbrev pub calls_of : List (Option (List E)) → ℕ → Option (List E)
  calls_of passes k = slice_index_or passes k None

  -- of each pass whose calls are known the history has these calls, in their order, and it has none of a number that was never given
  abbrev pub HasCalls : List (Call E) → List (Option (List E)) → Type 0
  HasCalls h passes = ((k : ℕ) (xs : List E) → calls_of passes k ≡ Some xs → calls_by k h ≡ xs) × ((k : ℕ) → length passes ≤ k → calls_by k h ≡ [])

  -- every pass was joined
  abbrev pub AllJoined : List (Option (List E)) → Type 0
  AllJoined [] = Unit {0}
  AllJoined (None ∷ ps) = ⊥
  AllJoined (Some xs ∷ ps) = AllJoined ps

  -- the calls of each pass, and none where they are not known
  abbrev pub known_calls : List (Option (List E)) → List (List E)
  known_calls [] = []
  known_calls (None ∷ ps) = [] ∷ known_calls ps
  known_calls (Some xs ∷ ps) = xs ∷ known_calls ps

  -- The history takes, one at a time, the first call that is left of some pass, until no pass has one left. So each call stands in it once, and each pass's calls in their order
  abbrev pub IsMerge : List (Call E) → List (List E) → Type 0
  IsMerge [] passes = (k : ℕ) → slice_index_or passes k [] ≡ []
  IsMerge (c ∷ h) passes = (rest : List E) × (c.by < length passes) × (slice_index_or passes c.by [] ≡ c.entry ∷ rest) × IsMerge h (slice_set passes c.by rest)

module _ {A : Type 0} where
  -- the first list, and then more
  abbrev pub BeginsWith : List A → List A → Type 0
  BeginsWith whole prefix = (rest : List A) × (whole ≡ prefix ++ rest)

  abbrev pub longer : List A → List A → List A
  longer xs ys = if ltb (length xs) (length ys) then ys else xs
