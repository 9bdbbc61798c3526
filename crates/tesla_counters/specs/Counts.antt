-- What contracts say of the counts.
use Rattle.std.specs.Prelude.{ℕ, ◌≤◌, List, [], replicate, slice_index_or}
use Rattle.atomic_table.specs.Seated.{TableId}

-- which counts these are
abbrev pub CountersId : Type 0
CountersId = TableId

-- which counts these are where there are none
abbrev pub no_counters : CountersId
no_counters = record { words = 0; slots = 0; views_name = 0; atom = 0; block = 0; offset = 0; slot_names = [] }

-- who sets or who reads the counts: which these are, and what it set or read last, zeros at first
pub record KnownCounts : Type 0 where
  pub counters : CountersId
  pub counts : List ℕ

-- so many zeros
abbrev pub no_counts : ℕ → List ℕ
no_counts n = replicate n 0

-- no count falls from one reading to a later one
abbrev pub NoneFalls : List ℕ → List ℕ → Type 0
NoneFalls before after = (index : ℕ) → slice_index_or before index 0 ≤ slice_index_or after index 0
