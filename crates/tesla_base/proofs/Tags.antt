-- Tags in their rooms.
use Rattle.std.proofs.Common.{◌≡◌, sym, ◌∙◌, ap, ℕ, ◌==◌, ◌&&◌, List, length, take, bytes_eq}
use Rattle.std.proofs.Math.Seq.{take-append_seam}
use Rattle.std.proofs.lemmas.Bool.Decides.{Decides-and, Decides-like, Decides-eqb, same_from_decides}
use Rattle.std.proofs.lemmas.Slice.Eq.{bytes_eq-Decides}
use Rattle.tesla_base.specs.Tag.{wide_tag, tag_bytes}

-- a tag has the bytes that it was made of
pub bytes_of_wide : (bytes : List ℕ) → tag_bytes (wide_tag bytes) ≡ bytes
bytes_of_wide bytes = take-append_seam bytes _

-- two rooms and two lengths are equal exactly where the bytes are that the tags were made of
pub wide_same : (a b : List ℕ) → (bytes_eq (wide_tag a).bytes (wide_tag b).bytes && (length a == length b)) ≡ bytes_eq a b
wide_same a b =
    let rooms = bytes_eq-Decides (wide_tag a).bytes (wide_tag b).bytes in
    let lengths = Decides-eqb (length a) (length b) in
    let forth : ((wide_tag a).bytes ≡ (wide_tag b).bytes) × (length a ≡ length b) → a ≡ b =
    λ h. sym (bytes_of_wide a) ∙ ap (λ n. take n (wide_tag a).bytes) h.1 ∙ ap (take (length b)) h.0 ∙ bytes_of_wide b in
    let back : a ≡ b → ((wide_tag a).bytes ≡ (wide_tag b).bytes) × (length a ≡ length b) =
    λ e. (ap (λ x. (wide_tag x).bytes) e, ap length e) in
    same_from_decides _ _ (Decides-like _ forth back (Decides-and _ _ rooms lengths)) (bytes_eq-Decides a b)
