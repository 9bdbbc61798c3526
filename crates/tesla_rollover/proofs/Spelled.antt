-- A payload hands over to the text behind the mark.
use Rattle.std.proofs.Common.{◌≡◌, ℕ, Bool, true, false, cond, List, ◌++◌, take, drop, take-append-drop, Some, None, refl, sym, ap, ◌∙◌}
use Rattle.std.specs.Prelude.{bytes_eq}
use Rattle.std.proofs.lemmas.Slice.Eq.{bytes_eq-Decides}
use Rattle.tesla_rollover.specs.Handover.{IsHandover, handover_mark, handover_text}

spelled_by : (payload text : List ℕ) (same : Bool) → bytes_eq (take 5 payload) handover_mark ≡ same → cond same (Some (drop 5 payload)) None ≡ Some text → IsHandover payload text
spelled_by payload text true same is =
    let rest : drop 5 payload ≡ text = cc in
    sym (take-append-drop 5 payload) ∙ ap (λ (prefix : List ℕ). prefix ++ drop 5 payload) ((bytes_eq-Decides (take 5 payload) handover_mark).0 same) ∙ ap (λ (behind : List ℕ). handover_mark ++ behind) rest
spelled_by payload text false same is = absurd cc

-- the text that is read stands behind the mark
pub read_spelled : (payload text : List ℕ) → handover_text payload ≡ Some text → IsHandover payload text
read_spelled payload text is = spelled_by payload text (bytes_eq (take 5 payload) handover_mark) refl is

-- the text behind the mark is read
pub spelled_read : (payload text : List ℕ) → IsHandover payload text → handover_text payload ≡ Some text
spelled_read payload text is = ap handover_text is ∙ ap (λ (same : Bool). cond same (Some text) None) ((bytes_eq-Decides handover_mark handover_mark).1 refl)
