-- Reading rows one after the other into an array, as a loop does.
use Rattle.std.proofs.Common.{◌≡◌, ℕ, suc, ◌-◌, ◌+◌, ◌≤◌, ◌<◌, List, [], ◌∷◌, ◌++◌, length, take, map, Option, Some, None, refl, sym, ap, ◌∙◌, append_assoc, arith}
use Rattle.std.proofs.Math.ListN.{set}
use Rattle.std.proofs.lemmas.List.{append-nil, map_push}
use Rattle.std.proofs.lemmas.Grind.{take-set_at}
use Rattle.tesla_base.specs.Prefix.{◌>>=◌}
use Rattle.tesla_frame.specs.Reading.{rows_at}

-- what was read before, and what is still read
abbrev pub with_prefix : {A : Type 0} → List A → Option (List A × List ℕ) → Option (List A × List ℕ)
with_prefix prefix read = read >>= λ x. Some (prefix ++ x.0, x.1)

regroup : {A : Type 0} (prefix : List A) (row : A) (read : Option (List A × List ℕ)) → with_prefix prefix (read >>= λ x. Some (row ∷ x.0, x.1)) ≡ with_prefix (prefix ++ row ∷ []) read
regroup {A = A} prefix row (Some x) = ap (λ (rows : List A). Some (rows, x.1)) (simp append_assoc)
regroup prefix row None = refl

pub goes_on : {A : Type 0} (row_at : List ℕ → Option (A × List ℕ)) (prefix : List A) (count i : ℕ) (bytes : List ℕ) (row : A) (after : List ℕ) (total : Option (List A × List ℕ)) → i < count → Some (row, after) ≡ row_at bytes
    → with_prefix prefix (rows_at row_at (count - i) bytes) ≡ total → with_prefix (prefix ++ row ∷ []) (rows_at row_at (count - (i + 1)) after) ≡ total
unfolding rows_at
goes_on row_at prefix count i bytes row after total lt h so_far =
    let k : count - i ≡ suc (count - (i + 1)) = omega arith in
    let one : with_prefix prefix (rows_at row_at (count - i) bytes) ≡ with_prefix (prefix ++ row ∷ []) (rows_at row_at (count - (i + 1)) after) = rw (k, ← h) (regroup prefix row (rows_at row_at (count - (i + 1)) after)) in
    sym one ∙ so_far

pub ends : {A : Type 0} (row_at : List ℕ → Option (A × List ℕ)) (prefix : List A) (count i : ℕ) (bytes : List ℕ) (total : Option (List A × List ℕ)) → i < count → None ≡ row_at bytes
    → with_prefix prefix (rows_at row_at (count - i) bytes) ≡ total → None ≡ total
unfolding rows_at
ends row_at prefix count i bytes total lt h so_far =
    let k : count - i ≡ suc (count - (i + 1)) = omega arith in
    let one : with_prefix prefix (rows_at row_at (count - i) bytes) ≡ None = rw (k, ← h) refl in
    sym one ∙ so_far

-- the same, where the rows stand in an array, seen by view
pub goes_on_in : {A B : Type 0} (row_at : List ℕ → Option (A × List ℕ)) (view : B → A) (rows : List B) (count i : ℕ) (bytes : List ℕ) (row : B) (after : List ℕ) (total : Option (List A × List ℕ)) → i < count → i < length rows → Some (view row, after) ≡ row_at bytes
    → with_prefix (map view (take i rows)) (rows_at row_at (count - i) bytes) ≡ total → with_prefix (map view (take (i + 1) (set rows i row))) (rows_at row_at (count - (i + 1)) after) ≡ total
goes_on_in row_at view rows count i bytes row after total lt room h so_far =
    rw (take-set_at rows i (i + 1) row refl room, map_push view (take i rows) row) (goes_on row_at (map view (take i rows)) count i bytes (view row) after total lt h so_far)

-- the last row is read: front says what was read before a place
pub is_done : {A : Type 0} (row_at : List ℕ → Option (A × List ℕ)) (prefix : ℕ → List A) (count i : ℕ) (bytes : List ℕ) (total : Option (List A × List ℕ)) → i ≤ count → count ≤ i → with_prefix (prefix i) (rows_at row_at (count - i) bytes) ≡ total → Some (prefix count, bytes) ≡ total
unfolding rows_at
is_done {A = A} row_at prefix count i bytes total within past so_far =
    let k : count - i ≡ 0 = omega arith in
    let same : i ≡ count = omega arith in
    let one : with_prefix (prefix i) (rows_at row_at (count - i) bytes) ≡ Some (prefix i, bytes) = rw k (ap (λ (rows : List A). Some (rows, bytes)) (append-nil (prefix i))) in
    ap (λ (n : ℕ). Some (prefix n, bytes)) (sym same) ∙ sym one ∙ so_far
