-- Two entries that are told to be the same are the same, and only those.
use Rattle.std.proofs.Common.{◌≡◌, ◌∙◌, ℕ, zero, suc, true, eqb, ◌&&◌, List, [], ◌∷◌, Option, Some, None, refl, sym, ap, subst}
use Rattle.std.specs.Prelude.{bytes_eq}
use Rattle.std.proofs.lemmas.Bool.{eqb-true, eq-eqb, and_parts, and_from}
use Rattle.std.proofs.lemmas.Slice.Eq.{bytes_eq-Decides}
use Rattle.tesla_fitting.specs.declared.verdict.Verdict.{Verdict}
use Rattle.tesla_fitting.specs.declared.verdict.Verdict.TheVariants as verdicts
use Rattle.tesla_receiver.specs.Entries.{Arrival, Entry}
use Rattle.tesla_receiver.specs.declared.history.Entry.TheVariants.{Arrived, Taken, Ended}
use Rattle.tesla_state.specs.declared.replies.Reply.{Reply}
use Rattle.tesla_state.specs.declared.replies.Reply.TheVariants.{Given, Empty, Over}
use Rattle.tesla_audit.specs.Wrong.{verdict_numbers, reply_numbers, same_entry}

-- ---- what has these numbers

abbrev number_in : List ℕ → ℕ
number_in [] = 0
number_in (n ∷ rest) = n

abbrev some_in : List ℕ → Option ℕ
some_in [] = None
some_in (n ∷ rest) = Some n

abbrev verdict_by : ℕ → List ℕ → Verdict
verdict_by (suc zero) rest = verdicts.Malformed
verdict_by (suc (suc zero)) rest = verdicts.Foreign (record { 0 = number_in rest })
verdict_by (suc (suc (suc zero))) rest = verdicts.Misfit
verdict_by (suc (suc (suc (suc zero)))) rest = verdicts.Future (some_in rest)
verdict_by (suc (suc (suc (suc (suc zero))))) rest = verdicts.BadKey (record { 0 = number_in rest })
verdict_by (suc (suc (suc (suc (suc (suc zero)))))) rest = verdicts.Late
verdict_by (suc (suc (suc (suc (suc (suc (suc zero))))))) rest = verdicts.Repeat
verdict_by (suc (suc (suc (suc (suc (suc (suc (suc zero)))))))) rest = verdicts.Full
verdict_by (suc (suc (suc (suc (suc (suc (suc (suc (suc zero))))))))) rest = verdicts.Kept (number_in rest)
verdict_by _ rest = verdicts.Keys

abbrev verdict_of : List ℕ → Verdict
verdict_of [] = verdicts.Keys
verdict_of (n ∷ rest) = verdict_by n rest

verdict_again : (verdict : Verdict) → verdict_of (verdict_numbers verdict) ≡ verdict
verdict_again verdicts.Malformed = refl
verdict_again (verdicts.Foreign stream) = refl
verdict_again verdicts.Misfit = refl
verdict_again (verdicts.Future None) = refl
verdict_again (verdicts.Future (Some bound)) = refl
verdict_again (verdicts.BadKey chain) = refl
verdict_again verdicts.Late = refl
verdict_again verdicts.Repeat = refl
verdict_again verdicts.Full = refl
verdict_again (verdicts.Kept chains) = refl
verdict_again verdicts.Keys = refl

abbrev given_of : List ℕ → Reply
given_of (position ∷ interval ∷ number ∷ chain ∷ size ∷ payload) =
    Given (record { position = position; interval = interval; number = number; chain = chain; length = size }) payload
given_of _ = Empty

abbrev reply_by : ℕ → List ℕ → Reply
reply_by zero rest = Empty
reply_by (suc zero) rest = Over
reply_by _ rest = given_of rest

abbrev reply_of : List ℕ → Reply
reply_of [] = Empty
reply_of (n ∷ rest) = reply_by n rest

reply_again : (reply : Reply) → reply_of (reply_numbers reply) ≡ reply
reply_again (Given head payload) = refl
reply_again Empty = refl
reply_again Over = refl

numbers_same : (xs ys : List ℕ) → bytes_eq xs ys ≡ true → xs ≡ ys
numbers_same xs ys e = (bytes_eq-Decides xs ys).0 e

numbers_self : (xs : List ℕ) → bytes_eq xs xs ≡ true
numbers_self xs = (bytes_eq-Decides xs xs).1 refl

verdict_same : (a b : Verdict) → bytes_eq (verdict_numbers a) (verdict_numbers b) ≡ true → a ≡ b
verdict_same a b e = sym (verdict_again a) ∙ ap verdict_of (numbers_same (verdict_numbers a) (verdict_numbers b) e) ∙ verdict_again b

reply_same : (a b : Reply) → bytes_eq (reply_numbers a) (reply_numbers b) ≡ true → a ≡ b
reply_same a b e = sym (reply_again a) ∙ ap reply_of (numbers_same (reply_numbers a) (reply_numbers b) e) ∙ reply_again b

-- ---- entries

abbrev arrival_with : ℕ → ℕ → List ℕ → Verdict → Entry
arrival_with ingest reading bytes verdict = Arrived (record { ingest = ingest; reading = reading; bytes = bytes; verdict = verdict })

arrival_same : (a b : Arrival) → (eqb a.ingest b.ingest && eqb a.reading b.reading && bytes_eq a.bytes b.bytes && bytes_eq (verdict_numbers a.verdict) (verdict_numbers b.verdict)) ≡ true → ◌≡◌ {A = Entry} (Arrived a) (Arrived b)
arrival_same a b e =
    let last = and_parts (eqb a.ingest b.ingest && eqb a.reading b.reading && bytes_eq a.bytes b.bytes) (bytes_eq (verdict_numbers a.verdict) (verdict_numbers b.verdict)) e in
    let third = and_parts (eqb a.ingest b.ingest && eqb a.reading b.reading) (bytes_eq a.bytes b.bytes) last.0 in
    let both = and_parts (eqb a.ingest b.ingest) (eqb a.reading b.reading) third.0 in
    ap (λ (n : ℕ). arrival_with n a.reading a.bytes a.verdict) (eqb-true a.ingest b.ingest both.0)
    ∙ ap (λ (n : ℕ). arrival_with b.ingest n a.bytes a.verdict) (eqb-true a.reading b.reading both.1)
    ∙ ap (λ (bytes : List ℕ). arrival_with b.ingest b.reading bytes a.verdict) (numbers_same a.bytes b.bytes third.1)
    ∙ ap (arrival_with b.ingest b.reading b.bytes) (verdict_same a.verdict b.verdict last.1)

pub same_is : (a b : Entry) → same_entry a b ≡ true → a ≡ b
unfolding same_entry
same_is (Arrived a) (Arrived b) e = arrival_same a b e
same_is (Taken releaser reply) (Taken other returned) e =
    let both = and_parts (eqb releaser other) (bytes_eq (reply_numbers reply) (reply_numbers returned)) e in
    ap (λ (n : ℕ). Taken n reply) (eqb-true releaser other both.0) ∙ ap (Taken other) (reply_same reply returned both.1)
same_is (Ended ingest) (Ended other) e = ap Ended (eqb-true ingest other e)
same_is (Arrived a) (Taken releaser reply) e = absurd cc
same_is (Arrived a) (Ended ingest) e = absurd cc
same_is (Taken releaser reply) (Arrived b) e = absurd cc
same_is (Taken releaser reply) (Ended ingest) e = absurd cc
same_is (Ended ingest) (Arrived b) e = absurd cc
same_is (Ended ingest) (Taken releaser reply) e = absurd cc

pub same_self : (a : Entry) → same_entry a a ≡ true
unfolding same_entry
same_self (Arrived a) =
    and_from (eqb a.ingest a.ingest && eqb a.reading a.reading && bytes_eq a.bytes a.bytes) (bytes_eq (verdict_numbers a.verdict) (verdict_numbers a.verdict))
    (and_from (eqb a.ingest a.ingest && eqb a.reading a.reading) (bytes_eq a.bytes a.bytes)
    (and_from (eqb a.ingest a.ingest) (eqb a.reading a.reading) (eq-eqb a.ingest a.ingest refl) (eq-eqb a.reading a.reading refl)) (numbers_self a.bytes))
    (numbers_self (verdict_numbers a.verdict))
same_self (Taken releaser reply) = and_from (eqb releaser releaser) (bytes_eq (reply_numbers reply) (reply_numbers reply)) (eq-eqb releaser releaser refl) (numbers_self (reply_numbers reply))
same_self (Ended ingest) = eq-eqb ingest ingest refl

pub is_same : (a b : Entry) → a ≡ b → same_entry a b ≡ true
is_same a b e = subst (λ (x : Entry). same_entry a x ≡ true) e (same_self a)
