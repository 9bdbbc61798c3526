-- The counts of posts from one on.
use Rattle.std.proofs.Common.{◌≡◌, ◌∙◌, ℕ, suc, ◌+◌, ◌<◌, Bool, true, false, List, [], ◌∷◌, ◌++◌, length, get_or, drop, refl, sym, ap, arith, append-nil, append_assoc}
use Rattle.std.proofs.Math.Seq.{drop-cons}
use Rattle.std.proofs.Math.ListN.{drop_of_length-le}
use Rattle.std.specs.List.{list_any}
use Rattle.tesla_relay.specs.declared.relayed.PostCount.{PostCount}
use Rattle.tesla_run_relay.specs.Lines.{has_failed, lines_from, post_line}

-- from the end on there are none
none_left : (counts : List PostCount) (k : ℕ) → k ≡ length counts → drop k counts ≡ []
none_left counts k end = drop_of_length-le counts (omega (arith, end))

-- and else one, and those behind it
pub one_left : (counts : List PostCount) (k : ℕ) (count : PostCount) → ((d : PostCount) → count ≡ get_or counts k d) → k < length counts → drop k counts ≡ count ∷ drop (k + 1) counts
one_left counts k count is within =
    drop-cons counts k count within ∙ ap (λ c. c ∷ drop (suc k) counts) (sym (is count)) ∙ ap (λ n. count ∷ drop n counts) (let e : suc k ≡ k + 1 = omega arith in e)

-- ---- a failed post

pub none_failed : (counts : List PostCount) (k : ℕ) → k ≡ length counts → false ≡ list_any has_failed (drop k counts)
none_failed counts k end = ap (list_any has_failed) (sym (none_left counts k end))

pub one_failed : (counts : List PostCount) (k : ℕ) (count : PostCount) → ((d : PostCount) → count ≡ get_or counts k d) → k < length counts → count.failed ≡ true → true ≡ list_any has_failed (drop k counts)
one_failed counts k count is within failed = rw (one_left counts k count is within) (rw failed refl)

pub next_failed : (counts : List PostCount) (k : ℕ) (count : PostCount) (result : Bool) → ((d : PostCount) → count ≡ get_or counts k d) → k < length counts → count.failed ≡ false → result ≡ list_any has_failed (drop (k + 1) counts) → result ≡ list_any has_failed (drop k counts)
next_failed counts k count result is within sound rest = rw (one_left counts k count is within) (rw sound rest)

-- ---- the lines

pub no_lines : (counts : List PostCount) (k : ℕ) (text : List ℕ) → k ≡ length counts → text ≡ text ++ lines_from k (drop k counts)
no_lines counts k text end = sym (append-nil text) ∙ ap (λ cs. text ++ lines_from k cs) (sym (none_left counts k end))

pub next_lines : (counts : List PostCount) (k : ℕ) (count : PostCount) (before mid now : List ℕ) → ((d : PostCount) → count ≡ get_or counts k d) → k < length counts → mid ≡ before ++ post_line k count → now ≡ mid ++ lines_from (k + 1) (drop (k + 1) counts) → now ≡ before ++ lines_from k (drop k counts)
next_lines counts k count before mid now is within one rest =
    rest ∙ ap (λ t. t ++ lines_from (k + 1) (drop (k + 1) counts)) one
    ∙ append_assoc before (post_line k count) (lines_from (k + 1) (drop (k + 1) counts))
    ∙ ap (λ n. before ++ (post_line k count ++ lines_from n (drop (k + 1) counts))) (let e : k + 1 ≡ suc k = omega arith in e)
    ∙ ap (λ cs. before ++ lines_from k cs) (sym (one_left counts k count is within))
