-- What a contract sees of linked lists of numbers.
use Rattle.std.specs.Prelude.{ℕ, List, [], ◌∷◌, ◌++◌, get_or, map, slice_set}
use Rattle.tesla_base.specs.Members.{without}

-- the numbers below `slot_count` may stand in the lists; `reserved` is how many entries the tables have room for, together
pub record Lists : Type 0 where
  pub slot_count : ℕ
  pub lists : List (List ℕ)
  pub reserved : ℕ

-- the list of a number
abbrev pub list_of : Lists → ℕ → List ℕ
list_of all list = get_or all.lists list []

-- the lists after a number was taken out of all of them and put at the end of one
abbrev pub moved : ℕ → ℕ → List (List ℕ) → List (List ℕ)
moved slot list lists = slice_set (map (without slot) lists) list (without slot (get_or lists list []) ++ slot ∷ [])
