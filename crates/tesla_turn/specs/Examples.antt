-- What the two small chronicles stand for.
use Rattle.std.specs.Prelude.{◌≡◌, ℕ, ◌+◌, ◌%◌, ◌^◌, ltb, List, [], ◌∷◌, Option, Some, None, if◌then◌else◌}
use Rattle.std.specs.List.{fold}
use Rattle.tesla_turn.specs.declared.examples.Appended.{Appended}

-- the sum of these numbers
abbrev pub sum_after : List ℕ → ℕ
sum_after h = fold (λ total number. (total + number) % 2 ^ 64) 0 h

abbrev pub appended : ℕ → Option ℕ → Appended
appended number place = record { number = number; place = place }

-- the numbers that were taken, before others
abbrev pub taken_before : Option ℕ → ℕ → List ℕ → List ℕ
taken_before None number others = others
taken_before (Some place) number others = number ∷ others

abbrev pub taken : List Appended → List ℕ
taken [] = []
taken (e ∷ h) = taken_before e.place e.number (taken h)

-- the place of the next number in a list that has n
abbrev pub index_at : ℕ → ℕ → Option ℕ
index_at limit n = if ltb n limit then Some n else None

abbrev pub after_index : Option ℕ → ℕ → ℕ
after_index None n = n
after_index (Some place) n = n + 1

-- each reply is right where n numbers were taken before
abbrev pub IsLegalFrom : ℕ → ℕ → List Appended → Type 0
IsLegalFrom limit n [] = Unit {0}
IsLegalFrom limit n (e ∷ h) = (e.place ≡ index_at limit n) × IsLegalFrom limit (after_index e.place n) h

abbrev pub IsLegal : ℕ → List Appended → Type 0
IsLegal limit h = IsLegalFrom limit 0 h
