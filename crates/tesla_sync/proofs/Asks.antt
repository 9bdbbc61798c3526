-- An ask is read exactly where it is spelled.
use Rattle.std.proofs.Common.{◌≡◌, ◌∙◌, ◌<◌, ◌^◌, ℕ, true, Option, Some, None, List, refl, sym, ap, subst, arith}
use Rattle.std.specs.Str.{bytes_eq}
use Rattle.std.specs.Int.{w64, from_be_bytes, to_be_bytes}
use Rattle.std.proofs.lemmas.Nat.{from_be_bytes-to_be_bytes_8}
use Rattle.std.proofs.lemmas.Slice.Eq.{bytes_eq-Decides}
use Rattle.tesla_base.proofs.Prefixes.{some_is, test_some}
use Rattle.tesla_base.specs.Field.{number_at}
use Rattle.tesla_sync.specs.Ask.{IsAsk, ask_of, ask_text, if_spelled}

-- what stands in 8 bytes fits in them
pub below : (n : ℕ) → from_be_bytes w64 (to_be_bytes w64 n) < 2 ^ 64
below n = omega arith

time_in : (text : List ℕ) (t_r : ℕ) → text ≡ ask_text t_r → number_at w64 text 5 ≡ Some (from_be_bytes w64 (to_be_bytes w64 t_r))
time_in text t_r spelled = rw spelled refl

spelled_by : (text : List ℕ) (time : Option ℕ) (t_r : ℕ) → if_spelled text time ≡ Some t_r → (time ≡ Some t_r) × (text ≡ ask_text t_r)
spelled_by text None t_r h = absurd cc
spelled_by text (Some t) t_r h =
    let it = test_some (bytes_eq text (ask_text t)) (Some t) t_r h in
    (it.1, (bytes_eq-Decides text (ask_text t)).0 it.0 ∙ ap ask_text (some_is t t_r it.1))

-- what is read is spelled so
pub ask_found : (text : List ℕ) (t_r : ℕ) → ask_of text ≡ Some t_r → IsAsk text t_r
ask_found text t_r h =
    let it = spelled_by text (number_at w64 text 5) t_r h in
    let same : from_be_bytes w64 (to_be_bytes w64 t_r) ≡ t_r = some_is (from_be_bytes w64 (to_be_bytes w64 t_r)) t_r (sym (time_in text t_r it.1) ∙ it.0) in
    record { limit = subst (λ (n : ℕ). n < 2 ^ 64) same (below t_r); spelled = it.1 }

-- what is spelled so is read
pub ask_only : (text : List ℕ) (t_r : ℕ) → IsAsk text t_r → ask_of text ≡ Some t_r
ask_only text t_r is =
    let time : number_at w64 text 5 ≡ Some t_r = time_in text t_r is.spelled ∙ ap Some (from_be_bytes-to_be_bytes_8 t_r is.limit) in
    let same : bytes_eq text (ask_text t_r) ≡ true = (bytes_eq-Decides text (ask_text t_r)).1 is.spelled in
    rw (time, same) refl
