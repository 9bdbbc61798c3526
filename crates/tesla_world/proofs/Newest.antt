-- The newest index of a chain along some arrivals: it only rises, only by new keys, and to each key that is taken.
use Rattle.std.proofs.Common.{◌≡◌, ℕ, zero, suc, ◌+◌, ◌<◌, ◌≤◌, true, false, cond, List, [], ◌∷◌, ◌++◌, length, get_or, take, drop, max, Some, refl, sym, ap, subst, ⊎_elim, ◌∙◌, arith, add-zero}
use Rattle.std.specs.Prelude.{slice_get, filter, fold, flat_map}
use Rattle.std.specs.List.{Contains}
use Rattle.std.proofs.lemmas.Bool.{cases_lt, eq-eqb}
use Rattle.std.proofs.lemmas.List.{take_more, take-append-drop, take-take, append-nil}
use Rattle.std.proofs.lemmas.List.Concat.{flat_map-append}
use Rattle.std.proofs.lemmas.List.Elements.{Contains-append_right}
use Rattle.std.proofs.lemmas.Option.{get_or_from_slice_get, slice_get-get_or, slice_get_within}
use Rattle.tesla_frame.specs.declared.row.KeyRow.{KeyRow}
use Rattle.tesla_fitting.specs.Config.{chain_row}
use Rattle.tesla_fitting.specs.Rows.{is_of}
use Rattle.tesla_fitting.specs.declared.config.Config.{Config}
use Rattle.tesla_receiver.specs.Arrivals.{NewestRises}
use Rattle.tesla_receiver.specs.Keys.{greatest, keys_taken, newest}
use Rattle.tesla_receiver.specs.Entries.{Arrival}
use Rattle.tesla_world.specs.Laws.{IsReached}

-- one element more
pub take_got : {A : Type 0} (xs : List A) (i : ℕ) (x : A) → slice_get xs i ≡ Some x → take (i + 1) xs ≡ take i xs ++ x ∷ []
take_got xs i x at = take_more xs i x (slice_get_within xs i x at) ∙ ap (λ y. take i xs ++ y ∷ []) (get_or_from_slice_get xs i x x at)

-- what stands at a place is among all
pub contained : {A : Type 0} (xs : List A) (n : ℕ) (x : A) → slice_get xs n ≡ Some x → Contains xs x
contained xs n x at = (n, slice_get_within xs n x at, get_or_from_slice_get xs n x x at)

-- a longer front begins with a shorter one
pub take_further : {A : Type 0} (xs : List A) (a b : ℕ) → a ≤ b → take b xs ≡ take a xs ++ drop a (take b xs)
take_further xs a b less = sym (take-append-drop a (take b xs)) ∙ ap (λ ys. ys ++ drop a (take b xs)) (take-take a b xs less)

-- ---- the keys that are taken

above_first : (n : ℕ) (rows : List KeyRow) → n ≤ fold (λ m row. max m row.index) n rows
above_first n [] = omega arith
above_first n (row ∷ rows) = let more = above_first (max n row.index) rows in omega (arith, more)

greatest_at : (chain n k : ℕ) (rows : List KeyRow) (row : KeyRow) → slice_get rows k ≡ Some row → row.chain.0 ≡ chain → row.index ≤ greatest chain n rows
greatest_at chain n k [] row at same = absurd (cc)
greatest_at chain n zero (first ∷ rows) row at same =
    let here : first ≡ row = cc in
    let more : max n row.index ≤ fold (λ m r. max m r.index) (max n row.index) (filter (is_of chain) rows) = above_first (max n row.index) (filter (is_of chain) rows) in
    let passes : row.index ≤ greatest chain n (row ∷ rows) = rw (eq-eqb row.chain.0 chain same) (omega (arith, more)) in
    subst (λ (r : KeyRow). row.index ≤ greatest chain n (r ∷ rows)) (sym here) passes
greatest_at chain n (suc k) (first ∷ rows) row at same =
    elim (is_of chain first) as (λ b. row.index ≤ fold (λ m r. max m r.index) n (cond b (first ∷ filter (is_of chain) rows) (filter (is_of chain) rows))) [
      | true ↦ greatest_at chain (max n first.index) k rows row at same
      | false ↦ greatest_at chain n k rows row at same
    ]

-- with an arrival the newest index is at least that of each key that it takes
pub newest_reaches : (cfg : Config) (before : List Arrival) (arrival : Arrival) (row : KeyRow) → Contains (keys_taken cfg arrival) row → row.index ≤ newest cfg (before ++ arrival ∷ []) row.chain.0
unfolding newest
newest_reaches cfg before arrival row taken =
    let rows : List KeyRow = flat_map (keys_taken cfg) (before ++ arrival ∷ []) in
    let both : rows ≡ flat_map (keys_taken cfg) before ++ keys_taken cfg arrival =
    flat_map-append (keys_taken cfg) before (arrival ∷ []) ∙ ap (λ r. flat_map (keys_taken cfg) before ++ r) (append-nil (keys_taken cfg arrival)) in
    let among : Contains rows row = subst (λ (rs : List KeyRow). Contains rs row) (sym both) (Contains-append_right (flat_map (keys_taken cfg) before) (keys_taken cfg arrival) row taken) in
    greatest_at row.chain.0 (chain_row cfg row.chain.0).index among.0 rows row (slice_get-get_or rows among.0 row among.1 ∙ ap Some among.2) refl

-- ---- along the arrivals

-- where the newest index is below the interval before an arrival and reaches it with that, a new key reaches it
pub reached_by : NewestRises → (cfg : Config) (arrivals : List Arrival) (n : ℕ) (arrival : Arrival) (chain interval : ℕ) → slice_get arrivals n ≡ Some arrival → newest cfg (take n arrivals) chain < interval → interval ≤ newest cfg (take (n + 1) arrivals) chain → IsReached cfg (take n arrivals) arrival chain interval
reached_by rises cfg arrivals n arrival chain interval at below above =
    let more : take (n + 1) arrivals ≡ take n arrivals ++ arrival ∷ [] = take_got arrivals n arrival at in
    let here : interval ≤ newest cfg (take n arrivals ++ arrival ∷ []) chain = subst (λ (xs : List Arrival). interval ≤ newest cfg xs chain) more above in
    let key = rises cfg (take n arrivals) arrival chain (omega arith) in
    record { row = key.row; new = key.new; chain_is = key.chain_is; reaches = let same = key.index_is in omega (arith, same, here) }

-- no new key of these arrivals, from a place on and before another, reaches the interval
abbrev pub NoneReaches : Config → List Arrival → ℕ → ℕ → ℕ → ℕ → Type 0
NoneReaches cfg arrivals from until chain interval = (k : ℕ) (other : Arrival) → from ≤ k → k < until → slice_get arrivals k ≡ Some other → IsReached cfg (take k arrivals) other chain interval → ⊥

-- where no new key reaches the interval, the newest index stays below it
pub stays_below : NewestRises → (cfg : Config) (arrivals : List Arrival) (from d chain interval : ℕ) → from + d ≤ length arrivals → newest cfg (take from arrivals) chain < interval → NoneReaches cfg arrivals from (from + d) chain interval → newest cfg (take (from + d) arrivals) chain < interval
stays_below rises cfg arrivals from zero chain interval within below none = subst (λ (k : ℕ). newest cfg (take k arrivals) chain < interval) (sym (add-zero from)) below
stays_below rises cfg arrivals from (suc d) chain interval within below none =
    let n : ℕ = from + d in
    let inside : n < length arrivals = omega arith in
    let before : newest cfg (take n arrivals) chain < interval =
    stays_below rises cfg arrivals from d chain interval (omega arith) below (λ k other above less at reached. none k other above (omega arith) at reached) in
    elim arrivals as (λ xs. xs ≡ arrivals → newest cfg (take (from + suc d) arrivals) chain < interval) [
      | [] ↦ λ same. absurd (let short : length arrivals ≡ 0 = ap length (sym same) in omega (arith, short, inside))
      | first ∷ rest ↦ λ same.
          let other : Arrival = get_or arrivals n first in
          let at : slice_get arrivals n ≡ Some other = slice_get-get_or arrivals n first inside in
          let count : n + 1 ≡ from + suc d = omega arith in
          ⊎_elim
          (λ less. subst (λ (k : ℕ). newest cfg (take k arrivals) chain < interval) count less)
          (λ reaches. absurd (none n other (omega arith) (omega arith) at (reached_by rises cfg arrivals n other chain interval at before reaches)))
          (cases_lt (newest cfg (take (n + 1) arrivals) chain) interval)
    ] refl
