-- The counts of a history with one entry more.
use Rattle.std.proofs.Common.{◌≡◌, ◌∙◌, ◌==◌, ℕ, zero, suc, ◌+◌, ◌<◌, ◌≤◌, ◌^◌, Bool, true, false, List, [], ◌∷◌, ◌++◌, Option, cond, get_or, length, map, set, sym, refl, ap, subst, arith}
use Rattle.std.specs.Prelude.{nat_lt}
use Rattle.std.specs.List.{range_with_len}
use Rattle.std.proofs.lemmas.Bool.{le-ltb, ne_eqb}
use Rattle.std.proofs.lemmas.List.Concat.{flat_map-append}
use Rattle.std.proofs.lemmas.List.Sums.{count_by-le-length, sum_by-append}
use Rattle.tesla_counters.specs.Counts.{CountersId, NoneFalls}
use Rattle.tesla_receiver.specs.History.{arrival_in, arrivals_in, given_in, gives}
use Rattle.tesla_receiver.specs.Report.{count_of, report_of}
use Rattle.tesla_receiver.specs.Entries.{Arrival, Entry}
use Rattle.tesla_state.specs.Counting.{line_of}
use Rattle.tesla_state.specs.declared.report.Report.{Report}
use Rattle.tesla_recorder.specs.watched.Chains.{chain_in, is_chain, released_on}
use Rattle.tesla_recorder.specs.watched.Watched.{WatchedState, WatchedStands, counts_in, counts_of}
use Rattle.tesla_recorder.proofs.watched.Chains.{released_more}

-- of a history with one entry more the arrivals with a verdict are no fewer
count_rises : (line : ℕ) (history : List Entry) (entry : Entry) → count_of line (arrivals_in history) ≤ count_of line (arrivals_in (history ++ entry ∷ []))
count_rises line history entry =
    let one : Arrival → ℕ = λ arrival. cond (line_of arrival.verdict == line) 1 0 in
    let whole : count_of line (arrivals_in (history ++ entry ∷ [])) ≡ count_of line (arrivals_in history) + count_of line (arrivals_in (entry ∷ [])) =
    ap (count_of line) (flat_map-append arrival_in history (entry ∷ [])) ∙ sum_by-append one (arrivals_in history) (arrivals_in (entry ∷ [])) in
    omega (arith, whole)

given_rises : (history : List Entry) (entry : Entry) → given_in history ≤ given_in (history ++ entry ∷ [])
given_rises history entry =
    let whole : given_in (history ++ entry ∷ []) ≡ given_in history + given_in (entry ∷ []) = sum_by-append (λ x. cond (gives x) 1 0) history (entry ∷ []) in
    omega (arith, whole)

on_rises : (chain : ℕ) (history : List Entry) (entry : Entry) → released_on chain history ≤ released_on chain (history ++ entry ∷ [])
on_rises chain history entry = let whole = released_more chain history entry in omega (arith, whole)

-- no count falls in a history with one entry more
pub counts_rise : (history : List Entry) (entry : Entry) → NoneFalls (counts_of history) (counts_of (history ++ entry ∷ []))
counts_rise history entry zero = count_rises 1 history entry
counts_rise history entry (suc zero) = count_rises 2 history entry
counts_rise history entry (suc (suc zero)) = count_rises 3 history entry
counts_rise history entry (suc (suc (suc zero))) = count_rises 4 history entry
counts_rise history entry (suc (suc (suc (suc zero)))) = count_rises 5 history entry
counts_rise history entry (suc (suc (suc (suc (suc zero))))) = count_rises 6 history entry
counts_rise history entry (suc (suc (suc (suc (suc (suc zero)))))) = count_rises 7 history entry
counts_rise history entry (suc (suc (suc (suc (suc (suc (suc zero))))))) = count_rises 8 history entry
counts_rise history entry (suc (suc (suc (suc (suc (suc (suc (suc zero)))))))) = count_rises 9 history entry
counts_rise history entry (suc (suc (suc (suc (suc (suc (suc (suc (suc zero))))))))) = count_rises 10 history entry
counts_rise history entry (suc (suc (suc (suc (suc (suc (suc (suc (suc (suc zero)))))))))) = given_rises history entry
counts_rise history entry (suc (suc (suc (suc (suc (suc (suc (suc (suc (suc (suc zero))))))))))) = on_rises 0 history entry
counts_rise history entry (suc (suc (suc (suc (suc (suc (suc (suc (suc (suc (suc (suc zero)))))))))))) = on_rises 1 history entry
counts_rise history entry (suc (suc (suc (suc (suc (suc (suc (suc (suc (suc (suc (suc (suc zero))))))))))))) = on_rises 2 history entry
counts_rise history entry (suc (suc (suc (suc (suc (suc (suc (suc (suc (suc (suc (suc (suc (suc zero)))))))))))))) = on_rises 3 history entry
counts_rise history entry (suc (suc (suc (suc (suc (suc (suc (suc (suc (suc (suc (suc (suc (suc (suc zero))))))))))))))) = on_rises 4 history entry
counts_rise history entry (suc (suc (suc (suc (suc (suc (suc (suc (suc (suc (suc (suc (suc (suc (suc (suc zero)))))))))))))))) = on_rises 5 history entry
counts_rise history entry (suc (suc (suc (suc (suc (suc (suc (suc (suc (suc (suc (suc (suc (suc (suc (suc (suc zero))))))))))))))))) = on_rises 6 history entry
counts_rise history entry (suc (suc (suc (suc (suc (suc (suc (suc (suc (suc (suc (suc (suc (suc (suc (suc (suc (suc zero)))))))))))))))))) = on_rises 7 history entry
counts_rise history entry (suc (suc (suc (suc (suc (suc (suc (suc (suc (suc (suc (suc (suc (suc (suc (suc (suc (suc (suc index))))))))))))))))))) = omega arith

-- ---- one event more

-- the count of a chain among the counts
at_chain : (report : Report) (f : ℕ → ℕ) (chain : ℕ) → chain < 8 → get_or (counts_in report ++ map f (range_with_len 0 8)) (11 + chain) 0 ≡ f chain
at_chain report f zero below = refl
at_chain report f (suc zero) below = refl
at_chain report f (suc (suc zero)) below = refl
at_chain report f (suc (suc (suc zero))) below = refl
at_chain report f (suc (suc (suc (suc zero)))) below = refl
at_chain report f (suc (suc (suc (suc (suc zero))))) below = refl
at_chain report f (suc (suc (suc (suc (suc (suc zero)))))) below = refl
at_chain report f (suc (suc (suc (suc (suc (suc (suc zero))))))) below = refl
at_chain report f (suc (suc (suc (suc (suc (suc (suc (suc chain)))))))) below = absurd (omega arith)

-- and there is none behind them
past_end : (report : Report) (f : ℕ → ℕ) (chain : ℕ) → get_or (counts_in report ++ map f (range_with_len 0 8)) (11 + (suc (suc (suc (suc (suc (suc (suc (suc chain))))))))) 0 ≡ 0
past_end report f chain =
    let last : ℕ = (suc (suc (suc (suc (suc (suc (suc (suc chain)))))))) in
    let behind : 11 + last ≡ suc (suc (suc (suc (suc (suc (suc (suc (suc (suc (suc last)))))))))) = omega arith in
    ap (λ k. get_or (counts_in report ++ map f (range_with_len 0 8)) k 0) behind

-- numbers that agree below an end
map_below : (f g : ℕ → ℕ) (a n : ℕ) → ((k : ℕ) → k < a + n → f k ≡ g k) → map f (range_with_len a n) ≡ map g (range_with_len a n)
map_below f g a zero same = refl
map_below f g a (suc n) same = ap (λ x. x ∷ map f (range_with_len (a + 1) n)) (same a (omega arith)) ∙ ap (λ xs. g a ∷ xs) (map_below f g (a + 1) n (λ k below. same k (omega arith)))

one_more : (is : Bool) (n : ℕ) → cond is (n + 1) n ≡ n + cond is 1 0
one_more true n = refl
one_more false n = omega arith

-- the counts of a history with one entry more, from those before it
pub counts_more : (history : List Entry) (entry : Entry) (before : List ℕ) (chain : Option ℕ) → before ≡ counts_of history → chain_in entry ≡ chain
    → counts_in (report_of (history ++ entry ∷ [])) ++ map (λ k. cond (is_chain k chain) (get_or before (11 + k) 0 + 1) (get_or before (11 + k) 0)) (range_with_len 0 8) ≡ counts_of (history ++ entry ∷ [])
counts_more history entry before chain was is =
    ap (λ (xs : List ℕ). counts_in (report_of (history ++ entry ∷ [])) ++ xs)
    (map_below (λ k. cond (is_chain k chain) (get_or before (11 + k) 0 + 1) (get_or before (11 + k) 0)) (λ k. released_on k (history ++ entry ∷ [])) 0 8 (λ k below.
    ap (λ (xs : List ℕ). cond (is_chain k chain) (get_or xs (11 + k) 0 + 1) (get_or xs (11 + k) 0)) was
    ∙ ap (λ n. cond (is_chain k chain) (n + 1) n) (at_chain (report_of history) (λ c. released_on c history) k below)
    ∙ one_more (is_chain k chain) (released_on k history)
    ∙ ap (λ (c : Option ℕ). released_on k history + cond (is_chain k c) 1 0) (sym is)
    ∙ sym (released_more k history entry)))

-- no count by chain is above the number of entries
pub counts_few : (history : List Entry) (chain : ℕ) → get_or (counts_of history) (11 + chain) 0 ≤ length history
counts_few history zero = count_by-le-length (λ entry. is_chain 0 (chain_in entry)) history
counts_few history (suc zero) = count_by-le-length (λ entry. is_chain 1 (chain_in entry)) history
counts_few history (suc (suc zero)) = count_by-le-length (λ entry. is_chain 2 (chain_in entry)) history
counts_few history (suc (suc (suc zero))) = count_by-le-length (λ entry. is_chain 3 (chain_in entry)) history
counts_few history (suc (suc (suc (suc zero)))) = count_by-le-length (λ entry. is_chain 4 (chain_in entry)) history
counts_few history (suc (suc (suc (suc (suc zero))))) = count_by-le-length (λ entry. is_chain 5 (chain_in entry)) history
counts_few history (suc (suc (suc (suc (suc (suc zero)))))) = count_by-le-length (λ entry. is_chain 6 (chain_in entry)) history
counts_few history (suc (suc (suc (suc (suc (suc (suc zero))))))) = count_by-le-length (λ entry. is_chain 7 (chain_in entry)) history
counts_few history (suc (suc (suc (suc (suc (suc (suc (suc chain)))))))) =
    let none = past_end (report_of history) (λ c. released_on c history) chain in omega (arith, none)

-- ---- a packet more that was given

-- each count by chain fits where those do that it is made of
pub count_fits : (report : Report) (f : ℕ → ℕ) (chain : ℕ) → ((k : ℕ) → f k + 1 < 2 ^ 64) → get_or (counts_in report ++ map f (range_with_len 0 8)) (11 + chain) 0 + 1 < 2 ^ 64
count_fits report f zero fits = fits 0
count_fits report f (suc zero) fits = fits 1
count_fits report f (suc (suc zero)) fits = fits 2
count_fits report f (suc (suc (suc zero))) fits = fits 3
count_fits report f (suc (suc (suc (suc zero)))) fits = fits 4
count_fits report f (suc (suc (suc (suc (suc zero))))) fits = fits 5
count_fits report f (suc (suc (suc (suc (suc (suc zero)))))) fits = fits 6
count_fits report f (suc (suc (suc (suc (suc (suc (suc zero))))))) fits = fits 7
count_fits report f (suc (suc (suc (suc (suc (suc (suc (suc chain)))))))) fits = let none = past_end report f chain in omega (arith, none)

raised_past : (report : Report) (f : ℕ → ℕ) (chain : ℕ) → 8 ≤ chain
    → (let counts = counts_in report ++ map f (range_with_len 0 8) in cond (nat_lt chain 8) (set counts (11 + chain) (get_or counts (11 + chain) 0 + 1)) counts)
    ≡ counts_in report ++ map (λ k. cond (chain == k) (f k + 1) (f k)) (range_with_len 0 8)
raised_past report f chain past =
    let counts : List ℕ = counts_in report ++ map f (range_with_len 0 8) in
    ap (λ (b : Bool). cond b (set counts (11 + chain) (get_or counts (11 + chain) 0 + 1)) counts) (le-ltb chain 8 past)
    ∙ ap (λ (xs : List ℕ). counts_in report ++ xs) (map_below f (λ k. cond (chain == k) (f k + 1) (f k)) 0 8 (λ k below. sym (ap (λ b. cond b (f k + 1) (f k)) (ne_eqb chain k (λ e. omega arith)))))

-- the count of one chain was raised
pub raised_on : (report : Report) (f : ℕ → ℕ) (chain : ℕ)
    → (let counts = counts_in report ++ map f (range_with_len 0 8) in cond (nat_lt chain 8) (set counts (11 + chain) (get_or counts (11 + chain) 0 + 1)) counts)
    ≡ counts_in report ++ map (λ k. cond (chain == k) (f k + 1) (f k)) (range_with_len 0 8)
raised_on report f zero = refl
raised_on report f (suc zero) = refl
raised_on report f (suc (suc zero)) = refl
raised_on report f (suc (suc (suc zero))) = refl
raised_on report f (suc (suc (suc (suc zero)))) = refl
raised_on report f (suc (suc (suc (suc (suc zero))))) = refl
raised_on report f (suc (suc (suc (suc (suc (suc zero)))))) = refl
raised_on report f (suc (suc (suc (suc (suc (suc (suc zero))))))) = refl
raised_on report f (suc (suc (suc (suc (suc (suc (suc (suc chain)))))))) = raised_past report f (suc (suc (suc (suc (suc (suc (suc (suc chain)))))))) (omega arith)

-- ---- stations

-- a station that stands for one entry more, whose counts are still those before it
pub counts_stand : {V : Type 0} (stands : V → List Entry → Type 0) (state : WatchedState V) (before after : V) (counters : CountersId) (counts : List ℕ) (history : List Entry) (entry : Entry) (chain : Option ℕ)
    → length history < 2 ^ 63 → record { station = before; counters = counters; counts = counts } ≡ state → WatchedStands stands state history
    → (stands before history → stands after (history ++ entry ∷ [])) → chain_in entry ≡ chain
    → (h : List Entry) × (e : Entry) × (length h < 2 ^ 63) × stands after (h ++ e ∷ []) × (counts ≡ counts_of h) × (chain_in e ≡ chain)
counts_stand stands state before after counters counts history entry chain few same stood stands_now is =
    let old = subst (λ s. WatchedStands stands s history) (sym same) stood in
    (history, entry, few, stands_now old.stood, old.counted, is)

-- and that stands for its history again, once they were counted
pub stands_counted : {V : Type 0} (stands : V → List Entry → Type 0) (state now : WatchedState V) (before after : V) (counters : CountersId) (counts : List ℕ) (history : List Entry) (entry : Entry) (chain : Option ℕ)
    → record { station = before; counters = counters; counts = counts } ≡ state → WatchedStands stands state history
    → (stands before history → stands after (history ++ entry ∷ [])) → chain_in entry ≡ chain
    → ((h : List Entry) (e : Entry) → stands after (h ++ e ∷ []) → counts ≡ counts_of h → chain_in e ≡ chain → WatchedStands stands now (h ++ e ∷ [])) → WatchedStands stands now (history ++ entry ∷ [])
stands_counted stands state now before after counters counts history entry chain same stood stands_now is counted =
    let old = subst (λ s. WatchedStands stands s history) (sym same) stood in
    counted history entry (stands_now old.stood) old.counted is
