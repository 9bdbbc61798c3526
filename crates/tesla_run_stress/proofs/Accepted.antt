-- Each message of a load is accepted after those before it, and the disclosure after all.
use Rattle.std.proofs.Common.{◌≡◌, ◌∙◌, ℕ, zero, suc, ◌+◌, ◌-◌, ◌*◌, ◌/◌, ◌<◌, ◌≤◌, cond, [], ◌∷◌, ◌++◌, Result, sym, ap, subst, inl, inr, arith, add-one, refl}
use Rattle.std.specs.Prelude.{IsOk, ◌==◌, min}
use Rattle.std.proofs.lemmas.Bool.{cases_eq, eq-eqb, ne_eqb}
use Rattle.std.proofs.lemmas.List.Sums.{fold-append, sum_by-append}
use Rattle.tesla_base.specs.declared.names.Name.{Name}
use Rattle.tesla_clock.specs.Schedule.{Times}
use Rattle.tesla_sender.specs.declared.refusal.DiscloseRefusal.{DiscloseRefusal}
use Rattle.tesla_sender.specs.declared.refusal.SendRefusal.{SendRefusal}
use Rattle.tesla_sender.specs.Made.{Call, disclosed, framed, interval_at, interval_in, is_message_of, latest_of, made_disclosure, made_message, messages_of}
use Rattle.tesla_run_stress.specs.Base.{base_stream, base_times, last_of}
use Rattle.tesla_run_stress.specs.Load.{call_of, end_reading, log_of, payload_of, reading_of}
use Rattle.tesla_run_stress.proofs.Sent.{disclosed_is, interval_made, log_more, named}

log_next : (k : ℕ) → log_of (suc k) ≡ log_of k ++ call_of k ∷ []
log_next k = ap log_of (sym (add-one k)) ∙ log_more k

-- the interval of the last message
latest_to : (last k : ℕ) → latest_of (base_times last) (log_of k) ≡ (k + 9) / 10
unfolding log_of
latest_to last zero = refl
latest_to last (suc k) =
    let times : Times = base_times last in
    let here : latest_of times (log_of (suc k)) ≡ 1 + k / 10 =
    ap (latest_of times) (log_next k) ∙ fold-append (λ (before : ℕ) (call : Call). interval_in times call) 0 (log_of k) (call_of k ∷ []) ∙ interval_made last k in
    omega (arith, here)

messages_by : (i k n : ℕ) → 1 ≤ i → n ≡ min 10 (k - 10 * (i - 1)) → n + (0 + cond {A = ℕ} (1 + k / 10 == i) 1 0) ≡ min 10 (suc k - 10 * (i - 1))
messages_by i k n some is =
    elim (cases_eq (1 + k / 10) i) as (λ _. n + (0 + cond {A = ℕ} (1 + k / 10 == i) 1 0) ≡ min 10 (suc k - 10 * (i - 1))) [
      | inl same ↦ rw (eq-eqb (1 + k / 10) i same) (omega arith)
      | inr other ↦ rw (ne_eqb (1 + k / 10) i other) (omega arith)
    ]

-- how many messages an interval has
messages_to : (last i k : ℕ) → 1 ≤ i → messages_of (base_times last) i (log_of k) ≡ min 10 (k - 10 * (i - 1))
unfolding log_of
messages_to last i zero some = omega arith
messages_to last i (suc k) some =
    let times : Times = base_times last in
    ap (messages_of times i) (log_next k) ∙ sum_by-append (λ c. cond {A = ℕ} (is_message_of times i c) 1 0) (log_of k) (call_of k ∷ [])
    ∙ ap (λ (j : ℕ). messages_of times i (log_of k) + (0 + cond {A = ℕ} (j == i) 1 0)) (interval_made last k)
    ∙ messages_by i k (messages_of times i (log_of k)) some (messages_to last i k some)

pub message_accepted : (count k : ℕ) → k < count → IsOk (made_message (base_stream count) (log_of k) (reading_of k) (payload_of k))
unfolding made_message
message_accepted count k within =
    let last = last_of count in
    let times : Times = base_times last in
    let here = interval_made last k in
    let few = messages_to last (1 + k / 10) k (omega arith) in
    let number : ℕ = messages_of times (interval_at times (reading_of k)) (log_of k) in
    let small : number ≤ 10 = rw here (omega (arith, few)) in
    let name = named times (latest_of times (log_of k)) number (reading_of k) (payload_of k) (omega arith) (omega (arith, here)) (omega (arith, here)) (omega (arith, here, latest_to last k)) (omega (arith, small)) in
    subst (λ (r : Result Name SendRefusal). IsOk (framed (base_stream count) (payload_of k) r)) (sym name) refl

pub disclosure_accepted : (count : ℕ) → IsOk (made_disclosure (base_stream count) (log_of count) (end_reading (last_of count)))
unfolding made_disclosure
disclosure_accepted count =
    subst (λ (r : Result ℕ DiscloseRefusal). IsOk (disclosed (base_stream count) r)) (sym (disclosed_is count (latest_of (base_times (last_of count)) (log_of count)) (end_reading (last_of count)) (latest_to (last_of count) count) refl)) refl
