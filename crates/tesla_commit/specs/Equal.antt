-- A chain whose commitment a chain before has.
use Rattle.std.specs.Prelude.{ℕ, suc, Bool, List, [], ◌∷◌, ◌++◌, take, get_or, Option, Some, None, bytes_eq, if◌then◌else◌}
use Rattle.std.specs.List.{list_any}
use Rattle.tesla_commit.specs.declared.chain_row.ChainRow.{ChainRow}

-- what stands for a row that isn't there
abbrev pub no_row : ChainRow
no_row = record { delay = 0; index = 0; key = record { 0 = [] } }

abbrev pub has_key : ChainRow → ChainRow → Bool
has_key row other = bytes_eq other.key.0 row.key.0

-- the chain has the commitment of one before it
abbrev pub is_had : List ChainRow → ℕ → Bool
is_had rows chain = list_any (has_key (get_or rows chain no_row)) (take chain rows)

-- the first chain whose commitment a chain before has, told those before
abbrev pub equal_behind : List ChainRow → ℕ → List ChainRow → Option ℕ
equal_behind before chain [] = None
equal_behind before chain (row ∷ rows) =
    if list_any (λ (other : ChainRow). bytes_eq other.key.0 row.key.0) before then Some chain else equal_behind (before ++ row ∷ []) (suc chain) rows

abbrev pub first_equal : List ChainRow → Option ℕ
first_equal rows = equal_behind [] 0 rows
