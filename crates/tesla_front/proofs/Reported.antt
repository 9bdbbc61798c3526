-- What the console is told.
use Rattle.std.proofs.Common.{◌≡◌, ◌∙◌, inl, inr, ◌<◌, ◌≤◌, ◌-◌, ℕ, Bool, true, false, Option, List, [], ◌∷◌, ◌++◌, length, get_or, take, drop, refl, sym, ap, subst, arith}
use Rattle.std.proofs.lemmas.List.{take_rest}
use Rattle.tesla_desk.specs.Faults.{HasCause, Rose}
use Rattle.tesla_desk.specs.Outside.{AppendsPrefix, with_bytes}
use Rattle.tesla_desk.proofs.Told.{with_bytes_twice, prefix_longer, prefix_after}
use Rattle.tesla_front.specs.Fault.{fault_line}
use Rattle.tesla_front.specs.declared.fault.Fault.TheVariants.{Write}
use Rattle.tesla_front.specs.OutcomeView.{OutcomeView, Done, Failed, IsDone, text_of}
use Rattle.tesla_front.specs.Console.{Tells}
use Rattle.tesla_front.specs.Usage.{usage_line, usage_of}
use Rattle.tesla_front.specs.declared.forms.FormText.{FormText}

-- a count that rose from nothing is above it
pub rose_some : (before now : ℕ) → before ≡ 0 → Rose before now → 0 < now
rose_some before now e (inl above) = omega (arith, e, above)
rose_some before now e (inr full) = absurd (omega (arith, e, full))

-- a summary was told whole
pub tells_done : (usage lines : List ℕ) (before now : Option (List ℕ)) (old new : ℕ) (text : List ℕ) → text ≡ lines → now ≡ with_bytes before text → HasCause old new (true ≡ false) → old ≡ 0 → Tells usage (Done lines) (Done lines) before now new
tells_done usage lines before now old new text text_is written cause e = inl (refl, cause.still (λ f. absurd cc) ∙ e, written ∙ ap (with_bytes before) text_is)

-- a summary was lost, and a write fault told behind it
pub tells_lost : (usage lines : List ℕ) (before mid now : Option (List ℕ)) (old between new : ℕ) (line : List ℕ) (text : List ℕ) → text ≡ lines → line ≡ fault_line Write → AppendsPrefix before mid text → AppendsPrefix mid now line → old ≡ 0 → Rose old between → between ≤ new → Tells usage (Done lines) (Failed Write) before now new
tells_lost usage lines before mid now old between new line text text_is line_is first second e rose stays =
    let some : 0 < between = rose_some old between e rose in
    let written : now ≡ with_bytes before (take first.0 text ++ take second.0 line) = second.1.written ∙ ap (λ w. with_bytes w (take second.0 line)) first.1.written ∙ with_bytes_twice before (take first.0 text) (take second.0 line) in
    let parts : take first.0 text ++ take second.0 line ≡ take first.0 lines ++ take second.0 (fault_line Write) = ap (λ t. take first.0 t ++ take second.0 line) text_is ∙ ap (λ l. take first.0 lines ++ take second.0 l) line_is in
    inr (inr (refl, tt, omega (arith, some, stays), (take first.0 text ++ take second.0 line, (first.0, second.0, parts), written)))

-- the lines of an outcome without a summary were told, or a prefix of them
pub tells_lines : (usage : List ℕ) (outcome : OutcomeView) (whole : Bool) (before now : Option (List ℕ)) (old new : ℕ) → (IsDone outcome → ⊥) → (whole ≡ true → now ≡ with_bytes before (text_of usage outcome)) → AppendsPrefix before now (text_of usage outcome) → HasCause old new (whole ≡ false) → old ≡ 0 → Tells usage outcome outcome before now new
tells_lines usage outcome true before now old new none all prefix cause e = inl (refl, cause.still (λ f. absurd cc) ∙ e, all refl)
tells_lines usage outcome false before now old new none all prefix cause e = inr (inl (refl, none, rose_some old new e (cause.rose refl), prefix))

-- the second of three pieces was written in part
pub second_prefix : (before mid now : Option (List ℕ)) (a b c piece : List ℕ) → mid ≡ with_bytes before a → piece ≡ b → AppendsPrefix mid now piece → AppendsPrefix before now (a ++ b ++ c)
second_prefix before mid now a b c piece whole same prefix =
    prefix_longer before now (a ++ b) c (prefix_after before mid now a b whole (subst (λ (p : List ℕ). AppendsPrefix mid now p) same prefix))

-- the third of three pieces was written in part
pub third_prefix : (before mid late now : Option (List ℕ)) (a b c piece : List ℕ) → mid ≡ with_bytes before a → piece ≡ b → late ≡ with_bytes mid piece → AppendsPrefix late now c → AppendsPrefix before now (a ++ b ++ c)
third_prefix before mid late now a b c piece whole same next prefix =
    prefix_after before late now (a ++ b) c (next ∙ ap (with_bytes mid) same ∙ ap (λ w. with_bytes w b) whole ∙ with_bytes_twice before a b) prefix

-- the lines of some forms are that of the first and those of the others
usage_first : (forms : List FormText) (d : FormText) → 1 ≤ length forms → usage_of forms ≡ usage_line (get_or forms 0 d).words.now ++ usage_of (take (length forms - 1) (drop 1 forms))
usage_first [] d some = absurd (omega arith)
usage_first (form ∷ forms) d some = ap (λ (l : List FormText). usage_line form.words.now ++ usage_of l) (sym (take_rest (form ∷ forms) 1))

-- the first of some lines was written in part
pub usage_stops : (forms : List FormText) (d : FormText) (before now : Option (List ℕ)) → 1 ≤ length forms → AppendsPrefix before now (usage_line (get_or forms 0 d).words.now) → AppendsPrefix before now (usage_of forms)
usage_stops forms d before now some prefix =
    subst (λ (t : List ℕ). AppendsPrefix before now t) (sym (usage_first forms d some)) (prefix_longer before now (usage_line (get_or forms 0 d).words.now) (usage_of (take (length forms - 1) (drop 1 forms))) prefix)

-- the first of some lines was written, and then the others in part
pub usage_prefix : (forms : List FormText) (d : FormText) (before mid now : Option (List ℕ)) → 1 ≤ length forms → mid ≡ with_bytes before (usage_line (get_or forms 0 d).words.now) → AppendsPrefix mid now (usage_of (take (length forms - 1) (drop 1 forms))) → AppendsPrefix before now (usage_of forms)
usage_prefix forms d before mid now some first prefix =
    subst (λ (t : List ℕ). AppendsPrefix before now t) (sym (usage_first forms d some)) (prefix_after before mid now (usage_line (get_or forms 0 d).words.now) (usage_of (take (length forms - 1) (drop 1 forms))) first prefix)

-- the first of some lines was written, and then the others
pub usage_whole : (forms : List FormText) (d : FormText) (before mid now : Option (List ℕ)) → 1 ≤ length forms → mid ≡ with_bytes before (usage_line (get_or forms 0 d).words.now) → now ≡ with_bytes mid (usage_of (take (length forms - 1) (drop 1 forms))) → now ≡ with_bytes before (usage_of forms)
usage_whole forms d before mid now some first others =
    others ∙ ap (λ w. with_bytes w (usage_of (take (length forms - 1) (drop 1 forms)))) first ∙ with_bytes_twice before (usage_line (get_or forms 0 d).words.now) (usage_of (take (length forms - 1) (drop 1 forms))) ∙ ap (with_bytes before) (sym (usage_first forms d some))
