-- A text that was gathered alone, while its sink stayed as it was, and was then written.
use Rattle.std.proofs.Common.{◌≡◌, ℕ, List, [], ◌∷◌, ◌++◌, length, Option, Some, None, refl, sym, ap, subst, ◌∙◌, arith}
use Rattle.std.proofs.lemmas.List.{length-append}
use Rattle.tesla_desk.specs.Outside.{AppendsPrefix, with_bytes}
use Rattle.tesla_capture.specs.Gathering.{Gathers}

nothing_done : (bytes done : List ℕ) → Some bytes ≡ with_bytes (Some bytes) done → done ≡ []
nothing_done bytes [] same = refl
nothing_done bytes (first ∷ done) same =
    let whole : bytes ≡ bytes ++ first ∷ done = cc in
    absurd (omega (arith, ap (λ (bs : List ℕ). length bs) whole, length-append bytes (first ∷ done)))

held_is : (bytes held text : List ℕ) → Gathers (Some bytes) (Some bytes) held text → held ≡ text
held_is bytes held text both = sym (both.both ∙ ap (λ (done : List ℕ). done ++ held) (nothing_done bytes both.done both.written))

-- the whole of it
pub written_whole : (before after : Option (List ℕ)) (held text : List ℕ) → Gathers before before held text → after ≡ with_bytes before held → after ≡ with_bytes before text
written_whole None after held text both wrote = wrote
written_whole (Some bytes) after held text both wrote = wrote ∙ ap (λ (bs : List ℕ). with_bytes (Some bytes) bs) (held_is bytes held text both)

-- or a prefix of it
pub written_prefix : (before after : Option (List ℕ)) (held text : List ℕ) → Gathers before before held text → AppendsPrefix before after held → AppendsPrefix before after text
written_prefix None after held text both wrote = (0, record { fits = omega arith; written = wrote.1.written })
written_prefix (Some bytes) after held text both wrote = subst (λ (t : List ℕ). AppendsPrefix (Some bytes) after t) (held_is bytes held text both) wrote

-- the same of a text that was gathered behind nothing
module _ (before mid after : Option (List ℕ)) (held none text told : List ℕ) (empty : none ≡ []) (same : mid ≡ before) (is : text ≡ told) (both : Gathers before mid held (none ++ text)) where
  alone : Gathers before before held text
  alone = subst (λ (n : List ℕ). Gathers before before held (n ++ text)) empty (subst (λ (m : Option (List ℕ)). Gathers before m held (none ++ text)) same both)

  pub gathered_whole : after ≡ with_bytes mid held → after ≡ with_bytes before told
  gathered_whole wrote = subst (λ (t : List ℕ). after ≡ with_bytes before t) is (written_whole before after held text alone (wrote ∙ ap (λ (m : Option (List ℕ)). with_bytes m held) same))

  pub gathered_prefix : AppendsPrefix mid after held → AppendsPrefix before after told
  gathered_prefix wrote = subst (λ (t : List ℕ). AppendsPrefix before after t) is (written_prefix before after held text alone (subst (λ (m : Option (List ℕ)). AppendsPrefix m after held) same wrote))
