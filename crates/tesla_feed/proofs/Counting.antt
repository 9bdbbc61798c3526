-- What is counted of calls and of refusals.
use Rattle.std.proofs.Common.{◌≡◌, ◌∙◌, ℕ, ◌+◌, Bool, true, false, cond, List, [], ◌∷◌, ◌++◌, refl, ap, arith}
use Rattle.std.specs.List.{count_by}
use Rattle.std.proofs.lemmas.List.Sums.{sum_by-append}
use Rattle.tesla_sender.specs.Made.{Message, Disclose}
use Rattle.tesla_sender.specs.declared.refusal.SendRefusal.{SendRefusal}
use Rattle.tesla_sender.specs.declared.refusal.SendRefusal.TheVariants as unsent
use Rattle.tesla_relay.specs.Counts.{counted}
use Rattle.tesla_feed.specs.Fed.{Feeding, counts_of, is_backward, is_disclosure, is_early, is_full, is_message, is_over, is_too_long, with_call, with_refusal}
use Rattle.tesla_feed.specs.Steps.{after_refusal, one_more}
use Rattle.tesla_feed.specs.declared.counts.FeedCounts.{FeedCounts}

count_more : {A : Type 0} (test : A → Bool) (xs : List A) (x : A) → count_by test (xs ++ x ∷ []) ≡ count_by test xs + (0 + cond {A = ℕ} (test x) 1 0)
count_more test xs x = sum_by-append (λ y. cond {A = ℕ} (test y) 1 0) xs (x ∷ [])

counted_more : (n : ℕ) → counted (n + 1) ≡ one_more (counted n)
counted_more n = omega arith

-- one that passes the test
counts_one : {A : Type 0} (test : A → Bool) (xs : List A) (x : A) → test x ≡ true → counted (count_by test (xs ++ x ∷ [])) ≡ one_more (counted (count_by test xs))
counts_one test xs x passes =
    let one : cond {A = ℕ} (test x) 1 0 ≡ 1 = ap (λ b. cond {A = ℕ} b 1 0) passes in
    let more : count_by test (xs ++ x ∷ []) ≡ count_by test xs + 1 = omega (arith, count_more test xs x, one) in
    ap counted more ∙ counted_more (count_by test xs)

-- one that doesn't
counts_none : {A : Type 0} (test : A → Bool) (xs : List A) (x : A) → test x ≡ false → counted (count_by test (xs ++ x ∷ [])) ≡ counted (count_by test xs)
counts_none test xs x fails =
    let none : cond {A = ℕ} (test x) 1 0 ≡ 0 = ap (λ b. cond {A = ℕ} b 1 0) fails in
    let same : count_by test (xs ++ x ∷ []) ≡ count_by test xs = omega (arith, count_more test xs x, none) in
    ap counted same

-- counts that are the same
counts_are : (a b : FeedCounts) → a.messages ≡ b.messages → a.disclosures ≡ b.disclosures → a.too_long ≡ b.too_long → a.early ≡ b.early → a.over ≡ b.over → a.backward ≡ b.backward → a.full ≡ b.full → a.unread ≡ b.unread → a ≡ b
counts_are a b messages disclosures too_long early over backward full unread =
    ap (λ (n : ℕ). let it : FeedCounts = record { messages = n; disclosures = a.disclosures; too_long = a.too_long; early = a.early; over = a.over; backward = a.backward; full = a.full; unread = a.unread } in it) messages
    ∙ ap (λ (n : ℕ). let it : FeedCounts = record { messages = b.messages; disclosures = n; too_long = a.too_long; early = a.early; over = a.over; backward = a.backward; full = a.full; unread = a.unread } in it) disclosures
    ∙ ap (λ (n : ℕ). let it : FeedCounts = record { messages = b.messages; disclosures = b.disclosures; too_long = n; early = a.early; over = a.over; backward = a.backward; full = a.full; unread = a.unread } in it) too_long
    ∙ ap (λ (n : ℕ). let it : FeedCounts = record { messages = b.messages; disclosures = b.disclosures; too_long = b.too_long; early = n; over = a.over; backward = a.backward; full = a.full; unread = a.unread } in it) early
    ∙ ap (λ (n : ℕ). let it : FeedCounts = record { messages = b.messages; disclosures = b.disclosures; too_long = b.too_long; early = b.early; over = n; backward = a.backward; full = a.full; unread = a.unread } in it) over
    ∙ ap (λ (n : ℕ). let it : FeedCounts = record { messages = b.messages; disclosures = b.disclosures; too_long = b.too_long; early = b.early; over = b.over; backward = n; full = a.full; unread = a.unread } in it) backward
    ∙ ap (λ (n : ℕ). let it : FeedCounts = record { messages = b.messages; disclosures = b.disclosures; too_long = b.too_long; early = b.early; over = b.over; backward = b.backward; full = n; unread = a.unread } in it) full
    ∙ ap (λ (n : ℕ). let it : FeedCounts = record { messages = b.messages; disclosures = b.disclosures; too_long = b.too_long; early = b.early; over = b.over; backward = b.backward; full = b.full; unread = n } in it) unread

-- a refusal more
pub refused_counts : (made : Feeding) (refusal : SendRefusal) → counts_of (with_refusal made refusal) ≡ after_refusal (counts_of made) refusal
refused_counts made (unsent.TooLong length) =
    let r = unsent.TooLong length in
    counts_are (counts_of (with_refusal made r)) (after_refusal (counts_of made) r) refl refl (counts_one is_too_long made.refused r refl) (counts_none is_early made.refused r refl) (counts_none is_over made.refused r refl) (counts_none is_backward made.refused r refl) (counts_none is_full made.refused r refl) refl
refused_counts made (unsent.Early reading) =
    let r = unsent.Early reading in
    counts_are (counts_of (with_refusal made r)) (after_refusal (counts_of made) r) refl refl (counts_none is_too_long made.refused r refl) (counts_one is_early made.refused r refl) (counts_none is_over made.refused r refl) (counts_none is_backward made.refused r refl) (counts_none is_full made.refused r refl) refl
refused_counts made (unsent.Over interval) =
    let r = unsent.Over interval in
    counts_are (counts_of (with_refusal made r)) (after_refusal (counts_of made) r) refl refl (counts_none is_too_long made.refused r refl) (counts_none is_early made.refused r refl) (counts_one is_over made.refused r refl) (counts_none is_backward made.refused r refl) (counts_none is_full made.refused r refl) refl
refused_counts made (unsent.Backward interval) =
    let r = unsent.Backward interval in
    counts_are (counts_of (with_refusal made r)) (after_refusal (counts_of made) r) refl refl (counts_none is_too_long made.refused r refl) (counts_none is_early made.refused r refl) (counts_none is_over made.refused r refl) (counts_one is_backward made.refused r refl) (counts_none is_full made.refused r refl) refl
refused_counts made (unsent.IntervalFull interval) =
    let r = unsent.IntervalFull interval in
    counts_are (counts_of (with_refusal made r)) (after_refusal (counts_of made) r) refl refl (counts_none is_too_long made.refused r refl) (counts_none is_early made.refused r refl) (counts_none is_over made.refused r refl) (counts_none is_backward made.refused r refl) (counts_one is_full made.refused r refl) refl

-- a message more
pub message_counts : (made : Feeding) (reading : ℕ) (payload : List ℕ) → counts_of (with_call made (Message reading payload)) ≡ record (counts_of made) { messages = one_more (counts_of made).messages }
message_counts made reading payload =
    let call = Message reading payload in
    counts_are (counts_of (with_call made call)) (record (counts_of made) { messages = one_more (counts_of made).messages }) (counts_one is_message made.log call refl) (counts_none is_disclosure made.log call refl) refl refl refl refl refl refl

-- a disclosure more
pub disclosure_counts : (made : Feeding) (reading : ℕ) → counts_of (with_call made (Disclose reading)) ≡ record (counts_of made) { disclosures = one_more (counts_of made).disclosures }
disclosure_counts made reading =
    let call = Disclose reading in
    counts_are (counts_of (with_call made call)) (record (counts_of made) { disclosures = one_more (counts_of made).disclosures }) (counts_none is_message made.log call refl) (counts_one is_disclosure made.log call refl) refl refl refl refl refl refl
