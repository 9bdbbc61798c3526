-- A frame carries at most one key of each chain.
use Rattle.std.proofs.Common.{◌≡◌, ◌⊎◌, ℕ, ◌+◌, ◌-◌, ◌<◌, ◌≤◌, Bool, true, false, cond, ◌==◌, List, [], ◌∷◌, ◌++◌, flat_map, Option, Some, None, inl, inr, refl, sym, ap, subst, ◌∙◌, arith}
use Rattle.std.specs.Prelude.{nat_lt, filter}
use Rattle.std.specs.List.{enumerate_from}
use Rattle.std.proofs.lemmas.Bool.{cases_Bool, eqb-true, ne_eqb}
use Rattle.std.proofs.lemmas.List.{append-nil}
use Rattle.std.proofs.lemmas.List.Elements.{filter-append}
use Rattle.tesla_base.specs.declared.names.Key.{Key}
use Rattle.tesla_frame.specs.declared.row.KeyRow.{KeyRow}
use Rattle.tesla_frame.specs.Frame.{TagRow, Frame, Data, Disclosure, ChainsRise}
use Rattle.tesla_frame.specs.Reading.{frame_of}
use Rattle.tesla_frame.proofs.Rising.{disclosed_rise}
use Rattle.tesla_fitting.specs.declared.config.Config.{Config}
use Rattle.tesla_receiver.specs.Entries.{Arrival}
use Rattle.tesla_fitting.specs.Config.{chain_row}
use Rattle.tesla_fitting.specs.Rows.{carried, keys_of, is_of}
use Rattle.tesla_receiver.specs.Keys.{keys_in, takes_keys, keys_taken, newest, new_keys}

-- none, or one
abbrev pub AtMostOne : List KeyRow → Type 0
AtMostOne rows = (rows ≡ []) ⊎ ((row : KeyRow) × (rows ≡ row ∷ []))

-- ---- a disclosure, whose chains rise

none_above : (chain : ℕ) (row : KeyRow) (rows : List KeyRow) → chain ≤ row.chain.0 → ChainsRise (row ∷ rows) → filter (is_of chain) rows ≡ []
none_above chain row [] below rise = refl
none_above chain row (next ∷ rows) below rise =
    let other : (next.chain.0 == chain) ≡ false = ne_eqb next.chain.0 chain (λ e. omega (arith, e, below, rise.0)) in
    ap (λ b. cond b (next ∷ filter (is_of chain) rows) (filter (is_of chain) rows)) other ∙ none_above chain next rows (omega (arith, below, rise.0)) rise.1

rise_after : (row : KeyRow) (rows : List KeyRow) → ChainsRise (row ∷ rows) → ChainsRise rows
rise_after row [] rise = tt
rise_after row (next ∷ rows) rise = rise.1

rising_step : (chain : ℕ) (row : KeyRow) (own : List KeyRow) (b : Bool) → (row.chain.0 == chain) ≡ b → (b ≡ true → own ≡ []) → AtMostOne own → AtMostOne (cond b (row ∷ own) own)
rising_step chain row own true e none few = inr (row, ap (λ rows. row ∷ rows) (none refl))
rising_step chain row own false e none few = few

rising_few : (chain : ℕ) (rows : List KeyRow) → ChainsRise rows → AtMostOne (filter (is_of chain) rows)
rising_few chain [] rise = inl refl
rising_few chain (row ∷ rows) rise =
    rising_step chain row (filter (is_of chain) rows) (row.chain.0 == chain) refl
    (λ e. let same : row.chain.0 ≡ chain = eqb-true row.chain.0 chain e in none_above chain row rows (omega (arith, same)) rise)
    (rising_few chain rows (rise_after row rows rise))

-- ---- a data frame, whose rows are numbered

carried_step : (chain order index : ℕ) (key : Key) (early : Bool) → (order == chain) ≡ false → filter (is_of chain) (cond early [] (record { chain = record { 0 = order }; index = index; key = key } ∷ [])) ≡ []
carried_step chain order index key true e = refl
carried_step chain order index key false e = ap (λ b. cond b (record { chain = record { 0 = order }; index = index; key = key } ∷ []) []) e

carried_other : (cfg : Config) (interval chain order : ℕ) (key : Option Key) → (order == chain) ≡ false → filter (is_of chain) (carried cfg interval order key) ≡ []
carried_other cfg interval chain order None e = refl
carried_other cfg interval chain order (Some key) e = carried_step chain order (interval - (chain_row cfg order).delay) key (nat_lt interval (chain_row cfg order).delay) e

few_cond : (b : Bool) (row : KeyRow) → AtMostOne (cond b (row ∷ []) [])
few_cond true row = inr (row, refl)
few_cond false row = inl refl

carried_few_step : (chain : ℕ) (row : KeyRow) (early : Bool) → AtMostOne (filter (is_of chain) (cond early [] (row ∷ [])))
carried_few_step chain row true = inl refl
carried_few_step chain row false = few_cond (is_of chain row) row

carried_few : (cfg : Config) (interval chain order : ℕ) (key : Option Key) → AtMostOne (filter (is_of chain) (carried cfg interval order key))
carried_few cfg interval chain order None = inl refl
carried_few cfg interval chain order (Some key) =
    carried_few_step chain (record { chain = record { 0 = order }; index = interval - (chain_row cfg order).delay; key = key }) (nat_lt interval (chain_row cfg order).delay)

module _ (cfg : Config) (interval chain : ℕ) where
  abbrev carried_from : ℕ → List TagRow → List KeyRow
  carried_from order rows = flat_map (λ (p : ℕ × TagRow). carried cfg interval p.0 p.1.key) (enumerate_from order rows)

  own_both : (order : ℕ) (row : TagRow) (rows : List TagRow) → filter (is_of chain) (carried_from order (row ∷ rows)) ≡ filter (is_of chain) (carried cfg interval order row.key) ++ filter (is_of chain) (carried_from (order + 1) rows)
  own_both order row rows = filter-append (is_of chain) (carried cfg interval order row.key) (carried_from (order + 1) rows)

  numbered_none : (order : ℕ) (rows : List TagRow) → chain < order → filter (is_of chain) (carried_from order rows) ≡ []
  numbered_none order [] above = refl
  numbered_none order (row ∷ rows) above =
      own_both order row rows ∙ ap (λ own. own ++ filter (is_of chain) (carried_from (order + 1) rows)) (carried_other cfg interval chain order row.key (ne_eqb order chain (λ e. omega (arith, e, above))))
      ∙ numbered_none (order + 1) rows (omega arith)

  numbered_few : (order : ℕ) (rows : List TagRow) → AtMostOne (filter (is_of chain) (carried_from order rows))
  numbered_few order [] = inl refl
  numbered_few order (row ∷ rows) = subst (λ own. AtMostOne own) (sym (own_both order row rows)) (elim (cases_Bool (order == chain)) [
    | inl e ↦ (let same : order ≡ chain = eqb-true order chain e in
        let rest : filter (is_of chain) (carried cfg interval order row.key) ++ filter (is_of chain) (carried_from (order + 1) rows) ≡ filter (is_of chain) (carried cfg interval order row.key) =
        ap (λ own. filter (is_of chain) (carried cfg interval order row.key) ++ own) (numbered_none (order + 1) rows (omega (arith, same))) ∙ append-nil (filter (is_of chain) (carried cfg interval order row.key)) in
        subst (λ own. AtMostOne own) (sym rest) (carried_few cfg interval chain order row.key))
    | inr e ↦ subst (λ own. AtMostOne (own ++ filter (is_of chain) (carried_from (order + 1) rows))) (sym (carried_other cfg interval chain order row.key e)) (numbered_few (order + 1) rows)
  ])

-- ---- frames and arrivals

frame_few : (cfg : Config) (bytes : List ℕ) (chain : ℕ) (frame : Frame) → frame_of bytes ≡ Some frame → AtMostOne (filter (is_of chain) (keys_of cfg frame))
frame_few cfg bytes chain (Data f) e = numbered_few cfg f.name.interval chain 0 f.rows
frame_few cfg bytes chain (Disclosure f) e = rising_few chain f.rows (disclosed_rise bytes f e)

read_few : (cfg : Config) (bytes : List ℕ) (chain : ℕ) (o : Option Frame) → frame_of bytes ≡ o → AtMostOne (filter (is_of chain) (keys_in cfg o))
read_few cfg bytes chain None e = inl refl
read_few cfg bytes chain (Some frame) e = frame_few cfg bytes chain frame e

taken_few_step : (chain : ℕ) (rows : List KeyRow) (b : Bool) → AtMostOne (filter (is_of chain) rows) → AtMostOne (filter (is_of chain) (cond b rows []))
taken_few_step chain rows true few = few
taken_few_step chain rows false few = inl refl

-- an arrival takes at most one key of a chain
pub taken_few : (cfg : Config) (arrival : Arrival) (chain : ℕ) → AtMostOne (filter (is_of chain) (keys_taken cfg arrival))
taken_few cfg arrival chain = taken_few_step chain (keys_in cfg (frame_of arrival.bytes)) (takes_keys arrival.verdict) (read_few cfg arrival.bytes chain (frame_of arrival.bytes) refl)

swap_step : (p q : KeyRow → Bool) (row : KeyRow) (rows : List KeyRow) (b c : Bool) → q row ≡ b → p row ≡ c → filter p (filter q rows) ≡ filter q (filter p rows) → filter p (cond b (row ∷ filter q rows) (filter q rows)) ≡ filter q (cond c (row ∷ filter p rows) (filter p rows))
swap_step p q row rows true true e f same = rw (e, f) (ap (λ xs. row ∷ xs) same)
swap_step p q row rows true false e f same = rw f same
swap_step p q row rows false true e f same = rw e same
swap_step p q row rows false false e f same = same

-- two filters, in either order
pub filters_swap : (p q : KeyRow → Bool) (rows : List KeyRow) → filter p (filter q rows) ≡ filter q (filter p rows)
filters_swap p q [] = refl
filters_swap p q (row ∷ rows) = swap_step p q row rows (q row) (p row) refl refl (filters_swap p q rows)

few_filtered : (q : KeyRow → Bool) (rows : List KeyRow) → AtMostOne rows → AtMostOne (filter q rows)
few_filtered q rows (inl none) = inl (ap (filter q) none)
few_filtered q rows (inr one) = subst (λ xs. AtMostOne (filter q xs)) (sym one.1) (few_cond (q one.0) one.0)

-- and so at most one that is new
pub new_few : (cfg : Config) (before : List Arrival) (arrival : Arrival) (chain : ℕ) → AtMostOne (filter (is_of chain) (new_keys cfg before arrival))
new_few cfg before arrival chain =
    let newer : KeyRow → Bool = λ row. nat_lt (newest cfg before row.chain.0) row.index in
    subst (λ xs. AtMostOne xs) (sym (filters_swap (is_of chain) newer (keys_taken cfg arrival))) (few_filtered newer (filter (is_of chain) (keys_taken cfg arrival)) (taken_few cfg arrival chain))
