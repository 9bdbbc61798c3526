-- What the counts of a history make.
use Rattle.std.proofs.Common.{◌≡◌, ◌∙◌, ◌==◌, inl, inr, ℕ, zero, suc, ◌+◌, ◌≤◌, List, [], ◌∷◌, cond, get_or, length, map, drop, take, refl, ap, arith, get_or-drop, get_or-take, length-drop, length-take-le, sym}
use denote.Ref.{Bor}
use Rattle.std.proofs.lemmas.List.{length-map}
use Rattle.std.specs.List.{range_with_len}
use Rattle.std.proofs.lemmas.Bool.{cases_lt}
use Rattle.std.proofs.lemmas.List.Sums.{sum_by-append}
use Rattle.tesla_counters.specs.Counts.{NoneFalls}
use Rattle.tesla_fitting.specs.declared.verdict.Verdict.{Verdict}
use Rattle.tesla_fitting.specs.declared.verdict.Verdict.TheVariants.{Malformed, Foreign, Misfit, Future, BadKey, Late, Repeat, Full, Kept, Keys}
use Rattle.tesla_front.specs.Parts.{texts_of}
use Rattle.tesla_receiver.specs.History.{arrivals_in, given_in}
use Rattle.tesla_receiver.specs.Report.{count_of, report_of}
use Rattle.tesla_receiver.specs.Entries.{Arrival, Entry}
use Rattle.tesla_state.specs.Counting.{line_of}
use Rattle.tesla_state.specs.declared.report.Report.{Report}
use Rattle.tesla_recorder.specs.watched.Chains.{released_by_chain, released_on}
use Rattle.tesla_recorder.specs.watched.Watched.{counts_of}
use Rattle.tesla_run_receive.specs.watch.Lines.{Counted, chains_at, counted_at, others_at, report_at}
use Rattle.tesla_run_receive.specs.watch.Watch.{counted_of}

-- 1 where the verdict has this line, and else 0
abbrev hit : ℕ → Verdict → ℕ
hit line verdict = cond (line_of verdict == line) 1 0

-- each verdict has one of the ten lines
one_hit : (verdict : Verdict) → hit 1 verdict + hit 2 verdict + hit 3 verdict + hit 4 verdict + hit 5 verdict + hit 6 verdict + hit 7 verdict + hit 8 verdict + hit 9 verdict + hit 10 verdict ≡ 1
one_hit Malformed = refl
one_hit (Foreign stream) = refl
one_hit Misfit = refl
one_hit (Future bound) = refl
one_hit (BadKey chain) = refl
one_hit Late = refl
one_hit Repeat = refl
one_hit Full = refl
one_hit (Kept chains) = refl
one_hit Keys = refl

-- how many have this line among one arrival more
count_more : (line : ℕ) (arrival : Arrival) (arrivals : List Arrival) → count_of line (arrival ∷ arrivals) ≡ (0 + hit line arrival.verdict) + count_of line arrivals
count_more line arrival arrivals = sum_by-append (λ (a : Arrival). hit line a.verdict) (arrival ∷ []) arrivals

-- the counts of the ten verdicts add up to the arrivals
arrivals_add : (arrivals : List Arrival) → count_of 1 arrivals + count_of 2 arrivals + count_of 3 arrivals + count_of 4 arrivals + count_of 5 arrivals + count_of 6 arrivals + count_of 7 arrivals + count_of 8 arrivals + count_of 9 arrivals + count_of 10 arrivals ≡ length arrivals
arrivals_add [] = refl
arrivals_add (arrival ∷ arrivals) =
    let c1 : count_of 1 (arrival ∷ arrivals) ≡ (0 + hit 1 arrival.verdict) + count_of 1 arrivals = count_more 1 arrival arrivals in
    let c2 : count_of 2 (arrival ∷ arrivals) ≡ (0 + hit 2 arrival.verdict) + count_of 2 arrivals = count_more 2 arrival arrivals in
    let c3 : count_of 3 (arrival ∷ arrivals) ≡ (0 + hit 3 arrival.verdict) + count_of 3 arrivals = count_more 3 arrival arrivals in
    let c4 : count_of 4 (arrival ∷ arrivals) ≡ (0 + hit 4 arrival.verdict) + count_of 4 arrivals = count_more 4 arrival arrivals in
    let c5 : count_of 5 (arrival ∷ arrivals) ≡ (0 + hit 5 arrival.verdict) + count_of 5 arrivals = count_more 5 arrival arrivals in
    let c6 : count_of 6 (arrival ∷ arrivals) ≡ (0 + hit 6 arrival.verdict) + count_of 6 arrivals = count_more 6 arrival arrivals in
    let c7 : count_of 7 (arrival ∷ arrivals) ≡ (0 + hit 7 arrival.verdict) + count_of 7 arrivals = count_more 7 arrival arrivals in
    let c8 : count_of 8 (arrival ∷ arrivals) ≡ (0 + hit 8 arrival.verdict) + count_of 8 arrivals = count_more 8 arrival arrivals in
    let c9 : count_of 9 (arrival ∷ arrivals) ≡ (0 + hit 9 arrival.verdict) + count_of 9 arrivals = count_more 9 arrival arrivals in
    let c10 : count_of 10 (arrival ∷ arrivals) ≡ (0 + hit 10 arrival.verdict) + count_of 10 arrivals = count_more 10 arrival arrivals in
    let one = one_hit arrival.verdict in
    let rest = arrivals_add arrivals in
    omega (arith, c1, c2, c3, c4, c5, c6, c7, c8, c9, c10, one, rest)

-- the counts of a history make its report
report_whole : (history : List Entry) → report_at (counts_of history) ≡ report_of history
report_whole history =
    let arrivals = arrivals_in history in
    ap
    (λ (n : ℕ). let one : Report = record {
      arrivals = n;
      malformed = count_of 1 arrivals;
      foreign = count_of 2 arrivals;
      misfit = count_of 3 arrivals;
      future = count_of 4 arrivals;
      badkey = count_of 5 arrivals;
      late = count_of 6 arrivals;
      repeat = count_of 7 arrivals;
      full = count_of 8 arrivals;
      kept = count_of 9 arrivals;
      keys = count_of 10 arrivals;
      given = given_in history;
    } in one) (arrivals_add arrivals)

-- of numbers that are made of a range the first ones are made of a shorter range
taken_range : (f : ℕ → ℕ) (a n m : ℕ) → n ≤ m → take n (map f (range_with_len a m)) ≡ map f (range_with_len a n)
taken_range f a zero m few = refl
taken_range f a (suc n) zero few = absurd (omega arith)
taken_range f a (suc n) (suc m) few = ap (λ (xs : List ℕ). f a ∷ xs) (taken_range f (a + 1) n m (omega arith))

-- and its packets by chain
chains_whole : (chains : ℕ) (history : List Entry) → chains ≤ 8 → chains_at chains (counts_of history) ≡ released_by_chain chains history
chains_whole chains history few = taken_range (λ chain. released_on chain history) 0 chains 8 few

-- and there is nothing else
pub counted_whole : (chains : ℕ) (history : List Entry) → chains ≤ 8 → counted_at chains (counts_of history) ≡ counted_of chains history
counted_whole chains history few =
    let counts : List ℕ = counts_of history in
    ap (λ (r : Report). let it : Counted = record { report = r; chains = chains_at chains counts; others = [] } in it) (report_whole history)
    ∙ ap (λ (cs : List ℕ). let it : Counted = record { report = report_of history; chains = cs; others = [] } in it) (chains_whole chains history few)

-- there are as many of these as chains
pub chains_counted : (chains others : ℕ) (counts : List ℕ) → chains ≤ 8 → length counts ≡ 19 + others → length (chains_at chains counts) ≡ chains
chains_counted chains others counts few size = length-take-le chains (drop 11 counts) (let rest = length-drop 11 counts in omega (arith, few, size, rest))

-- and as many others as names
pub others_counted : (others : ℕ) (counts : List ℕ) → length counts ≡ 19 + others → length (others_at counts) ≡ others
others_counted others counts size = let rest = length-drop 19 counts in omega (arith, size, rest)

-- the same, told the names as they stand in code
pub sized : (names : List (Bor (List ℕ))) (counts : List ℕ) → length counts ≡ 19 + length names → length counts ≡ 19 + length (texts_of names)
sized names counts size = size ∙ ap (λ (n : ℕ). 19 + n) (sym (length-map names (λ (name : Bor (List ℕ)). name.now)))

past_taken : (n : ℕ) (xs : List ℕ) (k : ℕ) → n ≤ k → get_or (take n xs) k 0 ≡ 0
past_taken zero xs k past = refl
past_taken (suc n) [] k past = refl
past_taken (suc n) (x ∷ xs) zero past = absurd (omega arith)
past_taken (suc n) (x ∷ xs) (suc k) past = past_taken n xs k (omega arith)

-- and none of them falls where no count does
pub chains_fall : (chains : ℕ) (before now : List ℕ) → NoneFalls before now → NoneFalls (chains_at chains before) (chains_at chains now)
chains_fall chains before now falls k = elim (cases_lt k chains) [
  | inl below ↦ (
      let first = get_or-take chains (drop 11 before) k 0 below ∙ get_or-drop 11 before k 0 in
      let second = get_or-take chains (drop 11 now) k 0 below ∙ get_or-drop 11 now k 0 in
      let rises = falls (11 + k) in
      omega (arith, first, second, rises))
  | inr past ↦ (let first = past_taken chains (drop 11 before) k past in omega (arith, first))
]

pub others_fall : (before now : List ℕ) → NoneFalls before now → NoneFalls (others_at before) (others_at now)
others_fall before now falls k =
    let first = get_or-drop 19 before k 0 in
    let second = get_or-drop 19 now k 0 in
    let rises = falls (19 + k) in
    omega (arith, first, second, rises)
