-- The newest index of a chain is that of its keys that were new.
use Rattle.std.proofs.Common.{◌≡◌, ℕ, ◌≤◌, Bool, true, false, cond, List, [], ◌∷◌, ◌++◌, max, refl, sym, ap, subst, ◌∙◌, arith, append_assoc}
use Rattle.std.specs.Prelude.{nat_lt, ◌==◌, filter, fold, flat_map}
use Rattle.std.proofs.lemmas.Bool.{ltb-false, eqb-true}
use Rattle.std.proofs.lemmas.List.{append-nil}
use Rattle.std.proofs.lemmas.List.Concat.{flat_map-append}
use Rattle.tesla_frame.specs.declared.row.KeyRow.{KeyRow}
use Rattle.tesla_fitting.specs.declared.config.Config.{Config}
use Rattle.tesla_receiver.specs.Entries.{Arrival}
use Rattle.tesla_fitting.specs.Config.{chain_row}
use Rattle.tesla_state.specs.Releases.{each_after}
use Rattle.tesla_receiver.specs.Keys.{keys_taken, greatest, newest, new_keys, fresh_keys}
use Rattle.tesla_fitting.specs.Rows.{is_of}

pub greatest-append : (chain index : ℕ) (xs ys : List KeyRow) → greatest chain index (xs ++ ys) ≡ greatest chain (greatest chain index xs) ys
greatest-append chain index [] ys = refl
greatest-append chain index (x ∷ xs) ys = elim (is_of chain x) as (λ b. fold (λ n row. max n row.index) index (cond b (x ∷ filter (is_of chain) (xs ++ ys)) (filter (is_of chain) (xs ++ ys))) ≡ greatest chain (fold (λ n row. max n row.index) index (cond b (x ∷ filter (is_of chain) xs) (filter (is_of chain) xs))) ys) [
  | true ↦ greatest-append chain (max index x.index) xs ys
  | false ↦ greatest-append chain index xs ys
]

below_newest : (N : ℕ → ℕ) (chain n : ℕ) (row : KeyRow) → nat_lt (N row.chain.0) row.index ≡ false → (row.chain.0 == chain) ≡ true → N chain ≤ n → n ≡ max n row.index
below_newest N chain n row p q h =
    let same : row.chain.0 ≡ chain = eqb-true row.chain.0 chain q in
    let low : row.index ≤ N row.chain.0 = ltb-false (N row.chain.0) row.index p in
    let low_here : row.index ≤ N chain = subst (λ (c : ℕ). row.index ≤ N c) same low in
    omega arith

new_step : (N : ℕ → ℕ) (chain n : ℕ) (row : KeyRow) (new all : List KeyRow) (b o : Bool) → nat_lt (N row.chain.0) row.index ≡ b → (row.chain.0 == chain) ≡ o → N chain ≤ n → ((m : ℕ) → N chain ≤ m → greatest chain m new ≡ fold (λ k r. max k r.index) m all) → greatest chain n (cond b (row ∷ new) new) ≡ fold (λ k r. max k r.index) n (cond o (row ∷ all) all)
new_step N chain n row new all true true p q h ih = rw q (ih (max n row.index) (omega arith))
new_step N chain n row new all true false p q h ih = rw q (ih n h)
new_step N chain n row new all false true p q h ih = ih n h ∙ ap (λ m. fold (λ k r. max k r.index) m all) (below_newest N chain n row p q h)
new_step N chain n row new all false false p q h ih = ih n h

-- keys that aren't new don't count
pub greatest-new : (N : ℕ → ℕ) (chain n : ℕ) (rows : List KeyRow) → N chain ≤ n → greatest chain n (filter (λ row. nat_lt (N row.chain.0) row.index) rows) ≡ greatest chain n rows
greatest-new N chain n [] h = refl
greatest-new N chain n (row ∷ rows) h =
    new_step N chain n row (filter (λ r. nat_lt (N r.chain.0) r.index) rows) (filter (is_of chain) rows) (nat_lt (N row.chain.0) row.index) (row.chain.0 == chain) refl refl h (λ m g. greatest-new N chain m rows g)

-- one more arrival
pub newest_more : (cfg : Config) (before : List Arrival) (arrival : Arrival) (chain : ℕ) → newest cfg (before ++ arrival ∷ []) chain ≡ greatest chain (newest cfg before chain) (keys_taken cfg arrival)
unfolding newest
newest_more cfg before arrival chain =
    ap (greatest chain (chain_row cfg chain).index) (flat_map-append (keys_taken cfg) before (arrival ∷ []) ∙ ap (λ r. flat_map (keys_taken cfg) before ++ r) (append-nil (keys_taken cfg arrival)))
    ∙ greatest-append chain (chain_row cfg chain).index (flat_map (keys_taken cfg) before) (keys_taken cfg arrival)

newest_along : (cfg : Config) (chain : ℕ) (before arrivals : List Arrival) → greatest chain (newest cfg before chain) (each_after (new_keys cfg) before arrivals) ≡ newest cfg (before ++ arrivals) chain
newest_along cfg chain before [] = ap (λ b. newest cfg b chain) (sym (append-nil before))
newest_along cfg chain before (a ∷ rest) =
    greatest-append chain (newest cfg before chain) (new_keys cfg before a) (each_after (new_keys cfg) (before ++ a ∷ []) rest)
    ∙ ap (λ n. greatest chain n (each_after (new_keys cfg) (before ++ a ∷ []) rest)) (greatest-new (newest cfg before) chain (newest cfg before chain) (keys_taken cfg a) (omega arith) ∙ sym (newest_more cfg before a chain))
    ∙ newest_along cfg chain (before ++ a ∷ []) rest
    ∙ ap (λ b. newest cfg b chain) (append_assoc before (a ∷ []) rest)

newest_none : (cfg : Config) (chain : ℕ) → newest cfg [] chain ≡ (chain_row cfg chain).index
unfolding newest
newest_none cfg chain = refl

-- the newest index by the keys that were new
pub newest_fresh : (cfg : Config) (arrivals : List Arrival) (chain : ℕ) → newest cfg arrivals chain ≡ greatest chain (chain_row cfg chain).index (fresh_keys cfg arrivals)
unfolding fresh_keys
newest_fresh cfg arrivals chain =
    sym (newest_along cfg chain [] arrivals) ∙ ap (λ n. greatest chain n (each_after (new_keys cfg) [] arrivals)) (newest_none cfg chain)
