-- The counts of a history: with one arrival more, and together.
use Rattle.std.proofs.Common.{◌≡◌, ℕ, ◌+◌, ◌≤◌, Bool, true, false, cond, List, [], ◌∷◌, ◌++◌, length, length-append, refl, ◌∙◌, ◌==◌, add-zero, arith}
use Rattle.std.proofs.lemmas.List.Sums.{sum_by_push, sum_by-cons}
use Rattle.tesla_receiver.specs.Entries.{Arrival, Entry}
use Rattle.tesla_receiver.specs.declared.history.Entry.TheVariants.{Arrived, Taken, Ended}
use Rattle.tesla_state.specs.declared.replies.Reply.TheVariants.{Given, Empty, Over}
use Rattle.tesla_fitting.specs.declared.verdict.Verdict.{Verdict}
use Rattle.tesla_fitting.specs.declared.verdict.Verdict.TheVariants.{Malformed, Foreign, Misfit, Future, BadKey, Late, Repeat, Full, Kept, Keys}
use Rattle.tesla_receiver.specs.Consistent.{IsCounted}
use Rattle.tesla_receiver.specs.History.{arrival_in, arrivals_in, gives, given_in}
use Rattle.tesla_state.specs.Counting.{line_of}
use Rattle.tesla_receiver.specs.Report.{count_of, report_on}
use Rattle.tesla_state.specs.Steps.{one_if, counted}

more_if : (b : Bool) (n : ℕ) → n + cond b 1 0 ≡ one_if b n
more_if true n = refl
more_if false n = add-zero n

count_more : (xs : List Arrival) (a : Arrival) (line : ℕ) → count_of line (xs ++ a ∷ []) ≡ one_if (line_of a.verdict == line) (count_of line xs)
count_more xs a line = sum_by_push (λ (x : Arrival). cond (line_of x.verdict == line) 1 0) xs a ∙ more_if (line_of a.verdict == line) (count_of line xs)

pub report_more : (xs : List Arrival) (a : Arrival) (given : ℕ) → report_on (xs ++ a ∷ []) given ≡ counted a.verdict (report_on xs given)
report_more xs a given =
    let c0 : length (xs ++ a ∷ []) ≡ length xs + 1 = length-append xs (a ∷ []) in
    let c1 = count_more xs a 1 in
    let c2 = count_more xs a 2 in
    let c3 = count_more xs a 3 in
    let c4 = count_more xs a 4 in
    let c5 = count_more xs a 5 in
    let c6 = count_more xs a 6 in
    let c7 = count_more xs a 7 in
    let c8 = count_more xs a 8 in
    let c9 = count_more xs a 9 in
    let c10 = count_more xs a 10 in
    cc

-- ---- the counts together

one_line : (v : Verdict) → cond (line_of v == 1) 1 0 + cond (line_of v == 2) 1 0 + cond (line_of v == 3) 1 0 + cond (line_of v == 4) 1 0 + cond (line_of v == 5) 1 0 + cond (line_of v == 6) 1 0 + cond (line_of v == 7) 1 0 + cond (line_of v == 8) 1 0 + cond (line_of v == 9) 1 0 + cond (line_of v == 10) 1 0 ≡ 1
one_line Malformed = refl
one_line (Foreign stream) = refl
one_line Misfit = refl
one_line (Future bound) = refl
one_line (BadKey chain) = refl
one_line Late = refl
one_line Repeat = refl
one_line Full = refl
one_line (Kept chains) = refl
one_line Keys = refl

count_cons : (line : ℕ) (a : Arrival) (xs : List Arrival) → count_of line (a ∷ xs) ≡ cond (line_of a.verdict == line) 1 0 + count_of line xs
count_cons line a xs = sum_by-cons (λ (x : Arrival). cond (line_of x.verdict == line) 1 0) a xs

-- each arrival has one verdict
lines_sum : (xs : List Arrival) → count_of 1 xs + count_of 2 xs + count_of 3 xs + count_of 4 xs + count_of 5 xs + count_of 6 xs + count_of 7 xs + count_of 8 xs + count_of 9 xs + count_of 10 xs ≡ length xs
lines_sum [] = refl
lines_sum (a ∷ xs) =
    omega (arith, lines_sum xs, one_line a.verdict, count_cons 1 a xs, count_cons 2 a xs, count_cons 3 a xs, count_cons 4 a xs, count_cons 5 a xs, count_cons 6 a xs, count_cons 7 a xs, count_cons 8 a xs, count_cons 9 a xs, count_cons 10 a xs)

-- the counts of the verdicts are as many as the arrivals
pub report_sum : (xs : List Arrival) (given : ℕ) → IsCounted (report_on xs given)
report_sum xs given = lines_sum xs

one_entry : (e : Entry) → length (arrival_in e) + cond (gives e) 1 0 ≤ 1
one_entry (Arrived arrival) = omega arith
one_entry (Taken releaser (Given head payload)) = omega arith
one_entry (Taken releaser Empty) = omega arith
one_entry (Taken releaser Over) = omega arith
one_entry (Ended ingest) = omega arith

-- no more arrived and was given than events were
pub entered_few : (h : List Entry) → length (arrivals_in h) + given_in h ≤ length h
entered_few [] = omega arith
entered_few (e ∷ h) =
    let rest = entered_few h in
    let one = one_entry e in
    omega (arith, rest, one, length-append (arrival_in e) (arrivals_in h), sum_by-cons (λ (x : Entry). cond (gives x) 1 0) e h)
