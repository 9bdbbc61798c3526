-- Woven payloads, one by one.
use Rattle.std.proofs.Common.{◌≡◌, ℕ, zero, suc, ◌+◌, ◌-◌, ◌^◌, ◌<◌, ◌≤◌, List, [], ◌∷◌, length, get_or, Some, slice_get, All, refl, sym, ap, ◌∙◌, arith, length-append}
use Rattle.sha2.specs.Sha256.{sha256}
use Rattle.sha2.proofs.Facts256.{length-sha256}
use Rattle.std.proofs.lemmas.List.Elements.{All-cons, All-head, All-nil, All-tail}
use Rattle.std.proofs.lemmas.Option.{same_Some, slice_get-get_or, slice_get_within}
use Rattle.tesla_base.specs.declared.names.Name.{Name}
use Rattle.tesla_early.proofs.Spelled.{promise_read}
use Rattle.tesla_early.specs.Payloads.{promise_for, promise_of, promising_text}
use Rattle.tesla_early.specs.Woven.{IsWovenAt, woven, woven_payload}
use Rattle.std.specs.Prelude.{Option, None}

-- payload k is that of body k, and promises payload k + gap
woven_at : (gap : ℕ) (names : List Name) (bodies : List (List ℕ)) (k : ℕ) (body : List ℕ) → 1 ≤ gap → length names ≡ length bodies → slice_get bodies k ≡ Some body
    → slice_get (woven gap names bodies) k ≡ Some (woven_payload (slice_get names (k + gap)) (slice_get (woven gap names bodies) (k + gap)) body)
woven_at gap names [] k body some same at = absurd cc
woven_at gap [] (first ∷ bodies) k body some same at = absurd (omega (arith, same))
woven_at gap (name ∷ names) (first ∷ bodies) zero body some same at =
    let next : 0 + gap ≡ suc (gap - 1) = omega (arith, some) in
    rw (next, same_Some first body at) refl
woven_at gap (name ∷ names) (first ∷ bodies) (suc k) body some same at =
    let next : suc k + gap ≡ suc (k + gap) = omega arith in
    rw next (woven_at gap names bodies k body some (omega (arith, same)) at)

pub is_woven_at : (gap : ℕ) (names : List Name) (bodies : List (List ℕ)) (k : ℕ) (body : List ℕ) → 1 ≤ gap → length names ≡ length bodies → slice_get bodies k ≡ Some body → IsWovenAt gap names bodies (woven gap names bodies) k body
is_woven_at gap names bodies k body some same at = record { body_is = at; payload_is = woven_at gap names bodies k body some same at }

-- as many payloads as bodies
pub length-woven : (gap : ℕ) (names : List Name) (bodies : List (List ℕ)) → length names ≡ length bodies → length (woven gap names bodies) ≡ length bodies
length-woven gap [] [] same = refl
length-woven gap [] (body ∷ bodies) same = absurd (omega (arith, same))
length-woven gap (name ∷ names) [] same = absurd (omega (arith, same))
length-woven gap (name ∷ names) (body ∷ bodies) same = ap suc (length-woven gap names bodies (omega (arith, same)))

-- what is read off a payload is the promise of the later one
pub woven_read : (gap : ℕ) (names : List Name) (bodies : List (List ℕ)) (k : ℕ) (payload later : List ℕ) (name : Name) → 1 ≤ gap → length names ≡ length bodies
    → slice_get (woven gap names bodies) k ≡ Some payload → slice_get (woven gap names bodies) (k + gap) ≡ Some later → slice_get names (k + gap) ≡ Some name
    → name.interval < 2 ^ 32 → name.number < 2 ^ 16 → promise_of payload ≡ Some (promise_for name later)
woven_read gap names bodies k payload later name some same at behind named interval number =
    let within : k < length bodies = omega (arith, slice_get_within (woven gap names bodies) k payload at, length-woven gap names bodies same) in
    let body = get_or bodies k [] in
    let spelled : payload ≡ promising_text (promise_for name later) body =
    same_Some payload (promising_text (promise_for name later) body) (sym at ∙ woven_at gap names bodies k body some same (slice_get-get_or bodies k [] within) ∙ (rw (behind, named) refl)) in
    promise_read payload (promise_for name later) (record { fields = record { interval = interval; number = number; hash = length-sha256 later }; body = body; spelled = spelled })

-- ---- sizes

fits : (name : Option Name) (later : Option (List ℕ)) (body : List ℕ) → length body ≤ 1161 → length (woven_payload name later body) ≤ 1200
fits (Some name) (Some later) body short = let size = length-append (sha256 later) body in omega (arith, size, length-sha256 later, short)
fits (Some name) None body short = omega (arith, short)
fits None later body short = omega (arith, short)

pub woven_fit : (gap : ℕ) (names : List Name) (bodies : List (List ℕ)) → All (λ body. length body ≤ 1161) bodies → All (λ payload. length payload ≤ 1200) (woven gap names bodies)
woven_fit gap [] bodies short = All-nil (λ payload. length payload ≤ 1200)
woven_fit gap (name ∷ names) [] short = All-nil (λ payload. length payload ≤ 1200)
woven_fit gap (name ∷ names) (body ∷ bodies) short =
    All-cons (λ payload. length payload ≤ 1200) _ (woven gap names bodies)
    (fits (slice_get names (gap - 1)) (slice_get (woven gap names bodies) (gap - 1)) body (All-head (λ body. length body ≤ 1161) body bodies short))
    (woven_fit gap names bodies (All-tail (λ body. length body ≤ 1161) body bodies short))
