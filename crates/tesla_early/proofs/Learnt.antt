-- The promises that were learnt, with each entry of a history.
use Rattle.std.proofs.Common.{◌≡◌, ◌≤◌, ℕ, suc, ◌+◌, List, [], ◌∷◌, ◌++◌, length, take, Some, ap, ◌∙◌, arith}
use Rattle.std.specs.Prelude.{slice_get}
use Rattle.std.specs.List.{enumerate_from, fold}
use Rattle.std.proofs.lemmas.List.{length-take-le, take_all, take_more}
use Rattle.std.proofs.lemmas.List.Sums.{fold-append}
use Rattle.std.proofs.lemmas.Option.{get_or_from_slice_get, slice_get_within}
use Rattle.tesla_base.proofs.Lists.{enumerate_from-append}
use Rattle.tesla_receiver.specs.Entries.{Entry}
use Rattle.tesla_early.specs.Early.{learnt, learnt_after, learnt_with}

-- further entries learn from what those before them learnt
pub learnt-append : (most : ℕ) (h more : List Entry) → learnt most (h ++ more) ≡ fold (learnt_after most) (learnt most h) (enumerate_from (length h) more)
unfolding learnt
learnt-append most h more =
    ap (fold (learnt_after most) []) (enumerate_from-append 0 h more)
    ∙ fold-append (learnt_after most) [] (enumerate_from 0 h) (enumerate_from (0 + length h) more)
    ∙ (let first : 0 + length h ≡ length h = omega arith in ap (λ n. fold (learnt_after most) (learnt most h) (enumerate_from n more)) first)

-- one entry more
pub learnt_more : (most : ℕ) (h : List Entry) (e : Entry) → learnt most (h ++ e ∷ []) ≡ learnt_with most (learnt most h) (length h) e
learnt_more most h e = learnt-append most h (e ∷ [])

-- the same at a place of a history
pub learnt_next : (most : ℕ) (h : List Entry) (n : ℕ) (e : Entry) → slice_get h n ≡ Some e → learnt most (take (suc n) h) ≡ learnt_with most (learnt most (take n h)) n e
learnt_next most h n e at =
    let within = slice_get_within h n e at in
    let more : take (suc n) h ≡ take n h ++ e ∷ [] =
    (let next : suc n ≡ n + 1 = omega arith in ap (λ k. take k h) next)
    ∙ take_more h n e within ∙ ap (λ x. take n h ++ x ∷ []) (get_or_from_slice_get h n e e at) in
    ap (learnt most) more ∙ learnt_more most (take n h) e ∙ ap (λ k. learnt_with most (learnt most (take n h)) k e) (length-take-le n h (omega arith))

-- past the end nothing is learnt
pub learnt_past : (most : ℕ) (h : List Entry) (n : ℕ) → length h ≤ n → learnt most (take n h) ≡ learnt most h
learnt_past most h n past = ap (learnt most) (take_all n h past)
