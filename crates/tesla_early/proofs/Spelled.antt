-- A payload has a promise exactly where it spells it.
use Rattle.std.proofs.Common.{◌≡◌, ◌↔◌, ℕ, ◌≤◌, true, false, ◌&&◌, eqb, leb, List, [], ◌∷◌, ◌++◌, length, take, drop, Some, None, refl, sym, ap, subst, ◌∙◌, arith, slice_index}
use Rattle.std.specs.Int.{w16, w32, from_be_bytes, to_be_bytes}
use Rattle.std.proofs.lemmas.Bool.{and_parts, and_right, eqb-true, le-leb, leb-true, le-ltb}
use Rattle.std.proofs.lemmas.List.{drop-drop, length-append, length-drop, length-take, take_at, take-append-drop}
use Rattle.std.proofs.lemmas.Nat.{from_be_bytes-to_be_bytes_2, from_be_bytes-to_be_bytes_4}
use Rattle.std.proofs.lemmas.Option.{same_Some}
use Rattle.tesla_base.proofs.Prefixes.{AreBytes-drop, field16, field32, test_some}
use Rattle.tesla_base.specs.Prefix.{AreBytes}
use Rattle.tesla_early.specs.Payloads.{Promises, plain_text, promise_in, promise_of, promising_text}
use Rattle.tesla_early.specs.declared.promise.Promise.{Promise}

-- ---- what is spelled is read

pub promise_read : (payload : List ℕ) (promise : Promise) → Promises payload promise → promise_of payload ≡ Some promise
promise_read payload promise is =
    let size = length-append promise.hash is.body in
    let long : leb 39 (length (promising_text promise is.body)) ≡ true = le-leb 39 (length (promising_text promise is.body)) (omega (arith, size, is.fields.hash)) in
    let interval = from_be_bytes-to_be_bytes_4 promise.name.interval is.fields.interval in
    let number = from_be_bytes-to_be_bytes_2 promise.name.number is.fields.number in
    rw (is.spelled) (rw (long, interval, number, take_at promise.hash is.body 32 is.fields.hash) refl)

-- ---- what is read is spelled

first_one : (payload : List ℕ) → 39 ≤ length payload → slice_index payload 0 ≡ 1 → payload ≡ 1 ∷ drop 1 payload
first_one [] long one = absurd (omega arith)
first_one (first ∷ fields) long one = ap (λ (n : ℕ). n ∷ fields) one

-- fields that are long enough spell the promise in them
spells : (fields : List ℕ) → AreBytes fields → 38 ≤ length fields → Promises (1 ∷ fields) (promise_in fields)
spells fields bytes long =
    let behind = drop 4 fields in
    let interval = field32.takes fields (from_be_bytes w32 (take 4 fields), behind) bytes (rw (le-ltb (length fields) 4 (omega (arith, long))) refl) in
    let number = field16.takes behind (from_be_bytes w16 (take 2 behind), drop 2 behind) interval.0.rest_fits (rw (le-ltb (length behind) 2 (omega (arith, length-drop 4 fields, long))) refl) in
    let rest : drop 2 behind ≡ take 32 (drop 6 fields) ++ drop 32 (drop 6 fields) = drop-drop 2 4 fields ∙ sym (take-append-drop 32 (drop 6 fields)) in
    record {
      fields = record { interval = interval.1; number = number.1; hash = omega (arith, length-take 32 (drop 6 fields), length-drop 6 fields, long) };
      body = drop 32 (drop 6 fields);
      spelled = ap (λ (bytes : List ℕ). 1 ∷ bytes) (interval.0.parts ∙ ap (λ (bytes : List ℕ). to_be_bytes w32 (from_be_bytes w32 (take 4 fields)) ++ bytes) (number.0.parts ∙ ap (λ (bytes : List ℕ). to_be_bytes w16 (from_be_bytes w16 (take 2 behind)) ++ bytes) rest));
    }

pub promise_found : (payload : List ℕ) (promise : Promise) → AreBytes payload → promise_of payload ≡ Some promise → Promises payload promise
promise_found payload promise bytes h =
    let it = test_some (leb 39 (length payload) && eqb (slice_index payload 0) 1) (Some (promise_in (drop 1 payload))) promise h in
    let tests = and_parts _ _ it.0 in
    let long : 39 ≤ length payload = leb-true 39 (length payload) tests.0 in
    let first : payload ≡ 1 ∷ drop 1 payload = first_one payload long (eqb-true (slice_index payload 0) 1 tests.1) in
    let size : 38 ≤ length (drop 1 payload) = omega (arith, length-drop 1 payload, long) in
    subst (λ (p : Promise). Promises payload p) (same_Some (promise_in (drop 1 payload)) promise it.1)
    (subst (λ (text : List ℕ). Promises text (promise_in (drop 1 payload))) (sym first) (spells (drop 1 payload) (AreBytes-drop 1 payload bytes) size))

pub promise_exact : (payload : List ℕ) (promise : Promise) → AreBytes payload → (promise_of payload ≡ Some promise ↔ Promises payload promise)
promise_exact payload promise bytes = (promise_found payload promise bytes, promise_read payload promise)

-- ---- plain payloads

pub plain_has_none : (body : List ℕ) → promise_of (plain_text body) ≡ None
plain_has_none body = rw (and_right (leb 39 (length (plain_text body))) false refl) refl
