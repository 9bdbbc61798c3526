-- The first chain whose commitment a chain before it has.
use Rattle.std.proofs.Common.{◌≡◌, ℕ, zero, suc, ◌+◌, ◌<◌, ◌≤◌, Bool, true, false, cond, List, [], ◌∷◌, ◌++◌, length, take, drop, get_or, Some, None, refl, sym, ap, ◌∙◌, arith}
use Rattle.std.proofs.lemmas.List.{take_more}
use Rattle.tesla_commit.specs.declared.chain_row.ChainRow.{ChainRow}
use Rattle.tesla_commit.specs.Equal.{equal_behind, first_equal, is_had, no_row}

one_more : (n : ℕ) → suc n ≡ n + 1
one_more n = omega arith

drop_got : (rows : List ChainRow) (n : ℕ) → n < length rows → drop n rows ≡ get_or rows n no_row ∷ drop (suc n) rows
drop_got [] n below = absurd (omega (arith, below))
drop_got (row ∷ rows) zero below = refl
drop_got (row ∷ rows) (suc n) below = drop_got rows n (omega (arith, below))

drop_past : (rows : List ChainRow) (n : ℕ) → length rows ≤ n → drop n rows ≡ []
drop_past [] zero past = refl
drop_past [] (suc n) past = refl
drop_past (row ∷ rows) zero past = absurd (omega (arith, past))
drop_past (row ∷ rows) (suc n) past = drop_past rows n (omega (arith, past))

-- none so far has the commitment of one before it
abbrev pub NoneSoFar : List ChainRow → ℕ → Type 0
NoneSoFar rows n = first_equal rows ≡ equal_behind (take n rows) n (drop n rows)

at : (rows : List ChainRow) (n : ℕ) → n < length rows → NoneSoFar rows n
    → first_equal rows ≡ cond (is_had rows n) (Some n) (equal_behind (take n rows ++ get_or rows n no_row ∷ []) (suc n) (drop (suc n) rows))
at rows n below none = none ∙ ap (equal_behind (take n rows) n) (drop_got rows n below)

pub none_more : (rows : List ChainRow) (n : ℕ) → n < length rows → NoneSoFar rows n → is_had rows n ≡ false → NoneSoFar rows (n + 1)
none_more rows n below none fails =
    at rows n below none ∙ ap (λ (b : Bool). cond b (Some n) (equal_behind (take n rows ++ get_or rows n no_row ∷ []) (suc n) (drop (suc n) rows))) fails
    ∙ ap (λ (xs : List ChainRow). equal_behind xs (suc n) (drop (suc n) rows)) (sym (take_more rows n no_row below))
    ∙ ap (λ (k : ℕ). equal_behind (take (n + 1) rows) k (drop k rows)) (one_more n)

pub found_here : (rows : List ChainRow) (n : ℕ) → n < length rows → NoneSoFar rows n → is_had rows n ≡ true → Some n ≡ first_equal rows
found_here rows n below none passes =
    sym (at rows n below none ∙ ap (λ (b : Bool). cond b (Some n) (equal_behind (take n rows ++ get_or rows n no_row ∷ []) (suc n) (drop (suc n) rows))) passes)

pub found_none : (rows : List ChainRow) (n : ℕ) → length rows ≤ n → NoneSoFar rows n → None ≡ first_equal rows
found_none rows n past none = sym (none ∙ ap (equal_behind (take n rows) n) (drop_past rows n past))
