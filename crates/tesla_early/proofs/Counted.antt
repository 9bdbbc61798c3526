-- As many promises are used as arrivals were early.
use Rattle.std.proofs.Common.{◌≡◌, ℕ, zero, suc, ◌+◌, true, false, cond, List, [], ◌∷◌, ◌++◌, length, take, set, get_or, Option, Some, None, refl, sym, ap, ⊎_elim, ◌∙◌, arith}
use Rattle.std.specs.Prelude.{count_by, slice_get}
use Rattle.std.proofs.lemmas.Bool.{cases_Bool, cond-false, cond-true}
use Rattle.std.proofs.lemmas.List.{length-append, take_all, take_more}
use Rattle.std.proofs.lemmas.List.Sums.{sum_by-append, sum_by-set}
use Rattle.std.proofs.lemmas.Option.{get_or_from_slice_get, slice_get_within}
use Rattle.tesla_early.specs.Payloads.{promise_of}
use Rattle.tesla_early.specs.declared.promise.Promise.{Promise}
use Rattle.tesla_receiver.specs.Entries.{Arrival, Entry}
use Rattle.tesla_receiver.specs.declared.history.Entry.TheVariants.{Arrived, Taken, Ended}
use Rattle.tesla_receiver.proofs.EachAfter.{each_after_more}
use Rattle.tesla_state.specs.declared.replies.Reply.TheVariants.{Given, Empty, Over}
use Rattle.tesla_early.specs.Early.{Message, accepted, candidate, is_early, is_promised, learnt}
use Rattle.tesla_early.specs.Laws.{is_used}
use Rattle.tesla_early.specs.Learnt.{Learnt, taught_by, taught_with}
use Rattle.tesla_early.specs.Counted.{early_arrivals, early_count, early_in}
use Rattle.tesla_early.proofs.Accepted.{is_of_message}
use Rattle.tesla_early.proofs.Learnt.{learnt_next, learnt_past}
use Rattle.tesla_early.proofs.Steps.{Accepts, after_accepted, after_given, before, past_end}
use Rattle.tesla_early.proofs.FirstUsed.{used_up}

abbrev one_if_used : Learnt → ℕ
one_if_used it = cond (is_used it) 1 0

-- what is taught isn't used
none_taught : (n : ℕ) (o : Option Promise) → count_by is_used (taught_with n o) ≡ 0
none_taught n (Some promise) = refl
none_taught n None = refl

-- ---- one entry

used_once_given : (most : ℕ) (ls : List Learnt) (n : ℕ) (payload : List ℕ) → count_by is_used (ls ++ taught_by n payload) ≡ count_by is_used ls
used_once_given most ls n payload = let none = none_taught n (promise_of payload) in sum_by-append one_if_used ls (taught_by n payload) ∙ omega arith

used_accepted : (most : ℕ) (h : List Entry) (n : ℕ) (message : Message) → Accepts most h n message → count_by is_used (before most h (suc n)) ≡ 1 + count_by is_used (before most h n)
used_accepted most h n message accepts =
    let one = accepts.one in
    let kept = before most h n in
    let change = set kept one.place (used_up one.it) in
    let was : one_if_used (get_or kept one.place one.it) ≡ 0 =
    ap one_if_used (get_or_from_slice_get kept one.place one.it one.it one.at) ∙ ap (λ b. cond b 1 0) (is_of_message message one.it one.passes).unused in
    let changed : count_by is_used change + one_if_used (get_or kept one.place one.it) ≡ count_by is_used kept + 1 =
    sum_by-set one_if_used kept one.place (used_up one.it) one.it (slice_get_within kept one.place one.it one.at) in
    ap (count_by is_used) accepts.is ∙ used_once_given most change n message.payload ∙ omega arith

-- the number of those used grows as that of the early arrivals
record Counts (most : ℕ) (h : List Entry) (n : ℕ) (e : Entry) : Type 0 where
  is : length (early_in most (take n h) e) + count_by is_used (before most h n) ≡ count_by is_used (before most h (suc n))

counts_early : (most : ℕ) (h : List Entry) (n : ℕ) (arrival : Arrival) (o : Option Message) → candidate arrival ≡ o → slice_get h n ≡ Some (Arrived arrival) → is_early most (take n h) arrival ≡ true → Counts most h n (Arrived arrival)
counts_early most h n arrival None is at early =
    let never : false ≡ true = ap (is_promised most (before most h n)) (sym is) ∙ early in absurd (cc)
counts_early most h n arrival (Some message) is at early =
    let accepts = after_accepted most h n message (record { arrival = arrival; is = at; early = early; candidate_is = is }) in
    let single : length (early_in most (take n h) (Arrived arrival)) ≡ 1 = ap length (cond-true (is_early most (take n h) arrival) (arrival ∷ []) [] early) in
    record { is = ap (λ k. k + count_by is_used (before most h n)) single ∙ sym (used_accepted most h n message accepts) }

counts_same : (most : ℕ) (h : List Entry) (n : ℕ) (e : Entry) → length (early_in most (take n h) e) ≡ 0 → count_by is_used (before most h (suc n)) ≡ count_by is_used (before most h n) → Counts most h n e
counts_same most h n e none same = record { is = omega arith }

counts : (most : ℕ) (h : List Entry) (n : ℕ) (e : Entry) → slice_get h n ≡ Some e → Counts most h n e
counts most h n (Arrived arrival) at =
    ⊎_elim
    (λ early. counts_early most h n arrival (candidate arrival) refl at early)
    (λ not_early. counts_same most h n (Arrived arrival) (ap length (cond-false (is_early most (take n h) arrival) (arrival ∷ []) [] not_early))
    (ap (count_by is_used) (learnt_next most h n (Arrived arrival) at
    ∙ cond-false (is_early most (take n h) arrival) (accepted most (before most h n) n (candidate arrival)) (before most h n) not_early)))
    (cases_Bool (is_early most (take n h) arrival))
counts most h n (Taken releaser (Given head payload)) at =
    counts_same most h n (Taken releaser (Given head payload)) refl
    (ap (count_by is_used) (after_given most h n payload (record { releaser = releaser; head = head; is = at })) ∙ used_once_given most (before most h n) n payload)
counts most h n (Taken releaser Empty) at = counts_same most h n (Taken releaser Empty) refl (ap (count_by is_used) (learnt_next most h n (Taken releaser Empty) at))
counts most h n (Taken releaser Over) at = counts_same most h n (Taken releaser Over) refl (ap (count_by is_used) (learnt_next most h n (Taken releaser Over) at))
counts most h n (Ended ingest) at = counts_same most h n (Ended ingest) refl (ap (count_by is_used) (learnt_next most h n (Ended ingest) at))

-- ---- a history

counted_none : (most : ℕ) (h : List Entry) → early_count most (take 0 h) ≡ count_by is_used (before most h 0)
unfolding learnt
counted_none most h = refl

counted_next : (most : ℕ) (h : List Entry) (n : ℕ) (o : Option Entry) → slice_get h n ≡ o → early_count most (take n h) ≡ count_by is_used (before most h n) → early_count most (take (suc n) h) ≡ count_by is_used (before most h (suc n))
counted_next most h n None at same =
    let past = past_end h n at in
    ap (early_count most) (take_all (suc n) h (omega arith) ∙ sym (take_all n h past)) ∙ same
    ∙ ap (count_by is_used) (learnt_past most h n past ∙ sym (learnt_past most h (suc n) (omega arith)))
counted_next most h n (Some e) at same =
    let more : take (suc n) h ≡ take n h ++ e ∷ [] =
    (let next : suc n ≡ n + 1 = omega arith in ap (λ k. take k h) next)
    ∙ take_more h n e (slice_get_within h n e at) ∙ ap (λ x. take n h ++ x ∷ []) (get_or_from_slice_get h n e e at) in
    let one = (counts most h n e at).is in
    ap (early_count most) more ∙ ap length (each_after_more (early_in most) (take n h) e)
    ∙ length-append (early_arrivals most (take n h)) (early_in most (take n h) e) ∙ omega arith

counted_at : (most : ℕ) (h : List Entry) (n : ℕ) → early_count most (take n h) ≡ count_by is_used (before most h n)
counted_at most h zero = counted_none most h
counted_at most h (suc n) = counted_next most h n (slice_get h n) refl (counted_at most h n)

-- as many arrivals were early as promises were used
pub used_counted : (most : ℕ) (h : List Entry) → early_count most h ≡ count_by is_used (learnt most h)
used_counted most h =
    ap (early_count most) (sym (take_all (length h) h (omega arith))) ∙ counted_at most h (length h) ∙ ap (count_by is_used) (learnt_past most h (length h) (omega arith))
