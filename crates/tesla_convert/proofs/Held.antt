-- What was written of a text, and what is held of it.
use Rattle.std.proofs.Common.{◌≡◌, ◌∙◌, ℕ, zero, suc, Option, Some, None, IfSome, List, [], ◌∷◌, ◌++◌, length, take, drop, refl, sym, ap, subst, arith, append_assoc, append-nil}
use Rattle.std.proofs.lemmas.List.{take-append-le, take-append-drop, take_all}
use Rattle.tesla_capture.specs.Gathering.{Gathers}
use Rattle.tesla_desk.specs.Outside.{AppendsPrefix, with_bytes}
use Rattle.tesla_front.specs.Files.{IsPrefix}
use Rattle.tesla_convert.specs.Held.{HoldsText, HoldsPrefix}

-- what was told to be written, once something was appended
written_before : (before now : Option (List ℕ)) (bytes done : List ℕ) → now ≡ with_bytes before bytes → now ≡ Some done → (prefix : List ℕ) × (before ≡ Some prefix) × (done ≡ prefix ++ bytes)
written_before None now bytes done e told = absurd (let no : None ≡ Some done = sym e ∙ told in cc)
written_before (Some prefix) now bytes done e told =
    let same : Some done ≡ Some (prefix ++ bytes) = sym told ∙ e in
    (prefix, refl, cc)

-- bytes are a prefix of what begins with them
begins : (bytes more : List ℕ) → IsPrefix (bytes ++ more) bytes
begins bytes more = (length bytes, sym (take-append-le (length bytes) bytes more (omega arith) ∙ take_all (length bytes) bytes (omega arith)))

prefix_as_text : (text other bytes : List ℕ) → text ≡ other → IsPrefix text bytes → IsPrefix other bytes
prefix_as_text text other bytes e prefix = subst (λ (t : List ℕ). IsPrefix t bytes) e prefix

-- the first part of a front is a prefix
prefix_part : (first second text : List ℕ) → IsPrefix text (first ++ second) → IsPrefix text first
prefix_part first second text prefix =
    let whole : first ++ (second ++ drop prefix.0 text) ≡ text = sym (append_assoc first second (drop prefix.0 text)) ∙ ap (λ t. t ++ drop prefix.0 text) prefix.1 ∙ take-append-drop prefix.0 text in
    prefix_as_text (first ++ (second ++ drop prefix.0 text)) text first whole (begins first (second ++ drop prefix.0 text))

-- nothing was written or gathered
pub holds_none : (written : Option (List ℕ)) (held : List ℕ) → IfSome written (λ bytes. bytes ≡ []) → held ≡ [] → HoldsText written held []
holds_none None held empty none done told = absurd (let no : None ≡ Some done = told in cc)
holds_none (Some bytes) held empty none done told =
    let same : done ≡ bytes = cc in
    ap (λ h. done ++ h) none ∙ append-nil done ∙ same ∙ empty

-- a piece more was gathered
pub holds_more : (before now : Option (List ℕ)) (held rest text piece : List ℕ) → HoldsText before held text → Gathers before now rest (held ++ piece) → HoldsText now rest (text ++ piece)
holds_more before now held rest text piece holds gathers done told =
    let it = written_before before now gathers.done done gathers.written told in
    ap (λ d. d ++ rest) it.2 ∙ append_assoc it.0 gathers.done rest ∙ ap (λ t. it.0 ++ t) (sym gathers.both) ∙ sym (append_assoc it.0 held piece) ∙ ap (λ t. t ++ piece) (holds it.0 it.1)

-- what is held of a text begins every longer one
pub holds_prefix : (written : Option (List ℕ)) (held text more : List ℕ) → HoldsText written held text → HoldsPrefix written held (text ++ more)
holds_prefix written held text more holds done told =
    prefix_as_text (done ++ held ++ more) (text ++ more) (done ++ held) (ap (λ t. t ++ more) (holds done told)) (begins (done ++ held) more)

-- a prefix of what was held was written
pub holds_written : (before now : Option (List ℕ)) (held text more : List ℕ) → HoldsText before held text → AppendsPrefix before now held → HoldsPrefix now [] (text ++ more)
holds_written before now held text more holds appends done told =
    let it = written_before before now (take appends.0 held) done appends.1.written told in
    let whole : (it.0 ++ take appends.0 held) ++ (drop appends.0 held ++ more) ≡ text ++ more = sym (append_assoc (it.0 ++ take appends.0 held) (drop appends.0 held) more) ∙ ap (λ t. t ++ more) (append_assoc it.0 (take appends.0 held) (drop appends.0 held) ∙ ap (λ h. it.0 ++ h) (take-append-drop appends.0 held) ∙ holds it.0 it.1) in
    subst (λ (b : List ℕ). IsPrefix (text ++ more) b) (sym (append-nil done ∙ it.2)) (prefix_as_text ((it.0 ++ take appends.0 held) ++ (drop appends.0 held ++ more)) (text ++ more) (it.0 ++ take appends.0 held) whole (begins (it.0 ++ take appends.0 held) (drop appends.0 held ++ more)))

take_nothing : (n : ℕ) → take {A = ℕ} n [] ≡ []
take_nothing zero = refl
take_nothing (suc n) = refl

prefix_take : (text more : List ℕ) (n : ℕ) → IsPrefix (text ++ more) (take n text)
prefix_take [] more n = (0, take_nothing n)
prefix_take (x ∷ text) more zero = (0, refl)
prefix_take (x ∷ text) more (suc n) = let it = prefix_take text more n in (suc it.0, ap (λ l. x ∷ l) it.1)

-- a prefix of a text is one of a longer text
pub prefix_more : (text more bytes : List ℕ) → IsPrefix text bytes → IsPrefix (text ++ more) bytes
prefix_more text more bytes prefix = subst (λ (b : List ℕ). IsPrefix (text ++ more) b) (sym prefix.1) (prefix_take text more prefix.0)

-- what is held was written
pub holds_flushed : (before now : Option (List ℕ)) (held text : List ℕ) → HoldsText before held text → now ≡ with_bytes before held → HoldsText now [] text
holds_flushed before now held text holds e done told =
    let it = written_before before now held done e told in
    append-nil done ∙ it.2 ∙ holds it.0 it.1

-- all of a text is a prefix of it
pub whole_prefix : (written : Option (List ℕ)) (held text : List ℕ) → HoldsText written held text → HoldsPrefix written held text
whole_prefix written held text holds done told =
    prefix_as_text (done ++ held ++ []) text (done ++ held) (append-nil (done ++ held) ∙ holds done told) (begins (done ++ held) [])

-- a prefix of what is held was written
pub prefix_written : (before now : Option (List ℕ)) (held text : List ℕ) → HoldsPrefix before held text → AppendsPrefix before now held → HoldsPrefix now [] text
prefix_written before now held text prefix appends done told =
    let it = written_before before now (take appends.0 held) done appends.1.written told in
    let whole = prefix it.0 it.1 in
    subst (λ (b : List ℕ). IsPrefix text b) (sym (append-nil done ∙ it.2)) (prefix_part (it.0 ++ take appends.0 held) (drop appends.0 held) text (whole.0, append_assoc it.0 (take appends.0 held) (drop appends.0 held) ∙ ap (λ h. it.0 ++ h) (take-append-drop appends.0 held) ∙ whole.1))
