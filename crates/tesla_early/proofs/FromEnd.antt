-- Payloads that are woven from the end.
use Rattle.std.proofs.Common.{◌≡◌, ℕ, zero, suc, ◌+◌, ◌-◌, ◌<◌, List, [], ◌∷◌, ◌++◌, length, take, drop, get_or, reverse, slice_get, refl, sym, ap, ◌∙◌, arith, add-one}
use Rattle.std.proofs.lemmas.List.{reverse-append, take_rest}
use Rattle.tesla_base.specs.declared.names.Name.{Name}
use Rattle.tesla_early.specs.Woven.{woven, woven_payload}

woven_from : (gap : ℕ) (names : List Name) (bodies : List (List ℕ)) (index : ℕ) (body d : List ℕ) → length names ≡ length bodies → index < length bodies → body ≡ get_or bodies index d
    → woven gap (drop index names) (drop index bodies) ≡ woven_payload (slice_get (drop (suc index) names) (gap - 1)) (slice_get (woven gap (drop (suc index) names) (drop (suc index) bodies)) (gap - 1)) body ∷ woven gap (drop (suc index) names) (drop (suc index) bodies)
woven_from gap names [] index body d same h is = absurd (omega arith)
woven_from gap [] (first ∷ bodies) index body d same h is = absurd (omega (arith, same))
woven_from gap (name ∷ names) (first ∷ bodies) zero body d same h is = rw is refl
woven_from gap (name ∷ names) (first ∷ bodies) (suc index) body d same h is = woven_from gap names bodies index body d (omega (arith, same)) (omega arith) is

-- one payload more before those that are made
pub woven_more : (gap : ℕ) (names : List Name) (bodies items : List (List ℕ)) (payload body d : List ℕ) (before index : ℕ) → length names ≡ length bodies → index < length bodies → before ≡ index + 1 → body ≡ get_or bodies index d
    → reverse items ≡ woven gap (drop before names) (drop before bodies)
    → payload ≡ woven_payload (slice_get (take (length names - (index + 1)) (drop (index + 1) names)) (gap - 1)) (slice_get (reverse items) (gap - 1)) body
    → reverse (items ++ payload ∷ []) ≡ woven gap (drop index names) (drop index bodies)
woven_more gap names bodies items payload body d before index same h count is made payload_is =
    let next : before ≡ suc index = count ∙ add-one index in
    let rest : reverse items ≡ woven gap (drop (suc index) names) (drop (suc index) bodies) = made ∙ ap (λ (n : ℕ). woven gap (drop n names) (drop n bodies)) next in
    let own : payload ≡ woven_payload (slice_get (drop (suc index) names) (gap - 1)) (slice_get (woven gap (drop (suc index) names) (drop (suc index) bodies)) (gap - 1)) body =
    payload_is ∙ ap (λ (behind : List Name). woven_payload (slice_get behind (gap - 1)) (slice_get (reverse items) (gap - 1)) body) (take_rest names (index + 1))
    ∙ ap (λ (n : ℕ). woven_payload (slice_get (drop n names) (gap - 1)) (slice_get (reverse items) (gap - 1)) body) (add-one index)
    ∙ ap (λ (later : List (List ℕ)). woven_payload (slice_get (drop (suc index) names) (gap - 1)) (slice_get later (gap - 1)) body) rest in
    reverse-append items (payload ∷ []) ∙ ap (λ (later : List (List ℕ)). payload ∷ later) rest
    ∙ ap (λ (first : List ℕ). first ∷ woven gap (drop (suc index) names) (drop (suc index) bodies)) own
    ∙ sym (woven_from gap names bodies index body d same h is)
