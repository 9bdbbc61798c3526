-- The intervals that new keys span.
use Rattle.std.proofs.Common.{◌≡◌, ℕ, ◌+◌, ◌-◌, ◌<◌, ◌≤◌, List, [], ◌∷◌, ◌++◌, length, get_or, take, sym, ap, ◌∙◌, arith}
use Rattle.std.specs.Prelude.{◌^◌, fold}
use Rattle.std.specs.List.{All}
use Rattle.std.proofs.lemmas.List.{get_or-map, length-map, take_more}
use Rattle.std.proofs.lemmas.List.Sums.{fold-append}
use Rattle.std.proofs.lemmas.List.Elements.{All-cons, All-nil}
use Rattle.tesla_frame.specs.declared.row.KeyRow.{KeyRow}
use Rattle.tesla_keys.specs.Tip.{Tip}
use Rattle.tesla_walks.specs.Tips.{tip_at}
use Rattle.tesla_walks.specs.ReachedIntervals.{Spans, higher, highest, lower, lowest}
use Rattle.tesla_walks.specs.Walking.{Walking, row_of, rows_of}

lowest_least : (tips : List Tip) (new : List KeyRow) (start : ℕ) → fold (lower tips) start new ≤ start
lowest_least tips [] start = omega arith
lowest_least tips (row ∷ rows) start =
    let rest = lowest_least tips rows (lower tips start row) in
    omega (arith, rest)

lowest_all : (tips : List Tip) (new : List KeyRow) (start : ℕ) → All (λ row. fold (lower tips) start new ≤ (tip_at tips row.chain.0).index) new
lowest_all tips [] start = All-nil (λ row. start ≤ (tip_at tips row.chain.0).index)
lowest_all tips (row ∷ rows) start =
    let here = lowest_least tips rows (lower tips start row) in
    All-cons (λ r. fold (lower tips) (lower tips start row) rows ≤ (tip_at tips r.chain.0).index) row rows (omega (arith, here)) (lowest_all tips rows (lower tips start row))

highest_greatest : (new : List KeyRow) (start : ℕ) → start ≤ fold higher start new
highest_greatest [] start = omega arith
highest_greatest (row ∷ rows) start =
    let rest = highest_greatest rows (higher start row) in
    omega (arith, rest)

highest_all : (new : List KeyRow) (start : ℕ) → All (λ row. row.index ≤ fold higher start new) new
highest_all [] start = All-nil (λ row. row.index ≤ start)
highest_all (row ∷ rows) start =
    let here = highest_greatest rows (higher start row) in
    All-cons (λ r. r.index ≤ fold higher (higher start row) rows) row rows (omega (arith, here)) (highest_all rows (higher start row))

-- new keys span the intervals from the lowest to the highest
pub spans : (tips : List Tip) (new : List KeyRow) → Spans tips new (lowest tips new) (highest new)
spans tips new = record { above = lowest_all tips new (2 ^ 32 - 1); below = highest_all new 0 }

fold_more : {A : Type 0} (f : ℕ → A → ℕ) (start : ℕ) (xs : List A) (i : ℕ) (x : A) → i < length xs → get_or xs i x ≡ x → fold f start (take (i + 1) xs) ≡ f (fold f start (take i xs)) x
fold_more f start xs i x inside at = ap (fold f start) (take_more xs i x inside ∙ ap (λ y. take i xs ++ y ∷ []) at) ∙ fold-append f start (take i xs) (x ∷ [])

-- one walk more
pub walk_more : (f : ℕ → KeyRow → ℕ) (start : ℕ) (walks : List Walking) (i : ℕ) (d : Walking) (row : KeyRow) → i < length walks → row ≡ (get_or walks i d).row → fold f start (take (i + 1) (rows_of walks)) ≡ f (fold f start (take i (rows_of walks))) row
walk_more f start walks i d row inside is =
    fold_more f start (rows_of walks) i row (omega (arith, length-map walks row_of, inside)) (get_or-map row_of walks i d row inside ∙ sym is)
