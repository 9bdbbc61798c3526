-- The records of a script with woven payloads, written one after another.
use Rattle.std.proofs.Common.{◌≡◌, ◌∙◌, ℕ, zero, suc, ◌+◌, ◌<◌, ◌≤◌, Option, List, [], ◌∷◌, ◌++◌, length, drop, get_or, refl, sym, ap, subst, append_assoc, append-nil, arith}
use Rattle.std.specs.List.{flat_map}
use Rattle.tesla_capture.specs.Gathering.{Gathers}
use Rattle.tesla_capture.specs.Script.{record_text}
use Rattle.tesla_desk.specs.Faults.{HasCause}
use Rattle.tesla_desk.specs.Outside.{AppendsPrefix}
use Rattle.tesla_desk.proofs.Counts.{cause_as}
use Rattle.tesla_desk.proofs.Told.{prefix_after, prefix_longer, with_more}
use Rattle.tesla_run_weave.specs.Plan.{filled}
use Rattle.tesla_run_weave.specs.Steps.{IsPutTo, payloads_behind, slot_text}
use Rattle.tesla_run_weave.specs.declared.plan.Slot.{Slot}
use Rattle.tesla_run_weave.specs.declared.plan.Slot.TheVariants.{Message, Disclosure}

-- ---- the records that are left

-- the first of them, and those behind it
slots_from : (slots : List Slot) (k : ℕ) (d : Slot) → k < length slots → drop k slots ≡ get_or slots k d ∷ drop (k + 1) slots
slots_from [] k d within = absurd (omega arith)
slots_from (slot ∷ slots) zero d within = refl
slots_from (slot ∷ slots) (suc k) d within =
    let next : suc k + 1 ≡ suc (k + 1) = omega arith in
    rw next (slots_from slots k d (omega (arith, within)))

slots_end : (slots : List Slot) (k : ℕ) → length slots ≤ k → drop k slots ≡ []
slots_end [] zero past = refl
slots_end [] (suc k) past = refl
slots_end (slot ∷ slots) zero past = absurd (omega (arith, past))
slots_end (slot ∷ slots) (suc k) past = slots_end slots k (omega (arith, past))

-- the text of a record, and of those behind it
slot_first : (slot : Slot) (slots : List Slot) (payloads : List (List ℕ)) → flat_map record_text (filled (slot ∷ slots) payloads) ≡ slot_text slot payloads ++ flat_map record_text (filled slots (payloads_behind slot payloads))
slot_first (Message reading) slots [] = refl
slot_first (Message reading) slots (payload ∷ payloads) = refl
slot_first (Disclosure reading) slots payloads = refl

-- ---- what was put

-- one piece more was put
puts_more : (whole : List ℕ) (before mid now : Option (List ℕ)) (held more rest text others : List ℕ) → IsPutTo whole before mid held rest → rest ≡ text ++ others → Gathers mid now more (held ++ text) → IsPutTo whole before now more others
puts_more whole before mid now held more rest text others puts is gathers = record {
  done = puts.done ++ gathers.done;
  written = with_more before mid now puts.done gathers.done puts.written gathers.written;
  parts = puts.parts ∙ ap (λ t. puts.done ++ (held ++ t)) is ∙ ap (λ t. puts.done ++ t) (sym (append_assoc held text others))
      ∙ ap (λ t. puts.done ++ (t ++ others)) gathers.both ∙ ap (λ t. puts.done ++ t) (append_assoc gathers.done more others)
      ∙ sym (append_assoc puts.done gathers.done (more ++ others));
}

-- the next record was put
pub slot_put : (whole : List ℕ) (before mid now : Option (List ℕ)) (held more : List ℕ) (slots : List Slot) (payloads : List (List ℕ)) (k at next : ℕ) (d : Slot) → k < length slots → IsPutTo whole before mid held (flat_map record_text (filled (drop k slots) (drop at payloads)))
    → Gathers mid now more (held ++ slot_text (get_or slots k d) (drop at payloads)) → drop next payloads ≡ payloads_behind (get_or slots k d) (drop at payloads) → IsPutTo whole before now more (flat_map record_text (filled (drop (k + 1) slots) (drop next payloads)))
slot_put whole before mid now held more slots payloads k at next d within puts gathers behind =
    let slot : Slot = get_or slots k d in
    let left : List (List ℕ) = drop at payloads in
    let rest : flat_map record_text (filled (drop k slots) left) ≡ slot_text slot left ++ flat_map record_text (filled (drop (k + 1) slots) (drop next payloads)) =
    ap (λ (s : List Slot). flat_map record_text (filled s left)) (slots_from slots k d within) ∙ slot_first slot (drop (k + 1) slots) left
    ∙ ap (λ (p : List (List ℕ)). slot_text slot left ++ flat_map record_text (filled (drop (k + 1) slots) p)) (sym behind) in
    puts_more whole before mid now held more _ (slot_text slot left) _ puts rest gathers

-- a prefix of what is held was written
pub puts_prefix : (whole : List ℕ) (before mid now : Option (List ℕ)) (held rest : List ℕ) → IsPutTo whole before mid held rest → AppendsPrefix mid now held → AppendsPrefix before now whole
puts_prefix whole before mid now held rest puts prefix =
    subst (λ (t : List ℕ). AppendsPrefix before now t) (sym puts.parts) (prefix_after before mid now puts.done (held ++ rest) puts.written (prefix_longer mid now held rest prefix))

-- all records were put
pub puts_all : (whole : List ℕ) (before now : Option (List ℕ)) (held : List ℕ) (slots : List Slot) (payloads : List (List ℕ)) (k at : ℕ) → length slots ≤ k → IsPutTo whole before now held (flat_map record_text (filled (drop k slots) (drop at payloads))) → Gathers before now held whole
puts_all whole before now held slots payloads k at past puts = record {
  done = puts.done;
  written = puts.written;
  both = puts.parts ∙ ap (λ (s : List Slot). puts.done ++ (held ++ flat_map record_text (filled s (drop at payloads)))) (slots_end slots k past) ∙ ap (λ t. puts.done ++ t) (append-nil held);
}

-- ---- one piece, and then what was put behind it

pub gathers_then : (before mid now : Option (List ℕ)) (held more rest text : List ℕ) → Gathers before mid more held → Gathers mid now rest (more ++ text) → Gathers before now rest (held ++ text)
gathers_then before mid now held more rest text first second = record {
  done = first.done ++ second.done;
  written = with_more before mid now first.done second.done first.written second.written;
  both = ap (λ t. t ++ text) first.both ∙ append_assoc first.done more text ∙ ap (λ t. first.done ++ t) second.both ∙ sym (append_assoc first.done second.done rest);
}

-- where not all of it was written, a prefix of both was
pub prefix_then : (before mid now : Option (List ℕ)) (held more text : List ℕ) → Gathers before mid more held → AppendsPrefix mid now (more ++ text) → AppendsPrefix before now (held ++ text)
prefix_then before mid now held more text first prefix =
    subst (λ (t : List ℕ). AppendsPrefix before now t) (sym (ap (λ t. t ++ text) first.both ∙ append_assoc first.done more text)) (prefix_after before mid now first.done (more ++ text) first.written prefix)

pub prefix_of : (before mid now : Option (List ℕ)) (held more : List ℕ) → Gathers before mid more held → AppendsPrefix mid now more → AppendsPrefix before now held
prefix_of before mid now held more first prefix =
    subst (λ (t : List ℕ). AppendsPrefix before now t) (sym first.both) (prefix_after before mid now first.done more first.written prefix)

-- a call after which nothing failed before
pub cause_on : {failed other : Type 0} (a b c : ℕ) → b ≡ a → HasCause b c failed → (other → failed) → (failed → other) → HasCause a c other
cause_on {failed} {other} a b c same cause there back = cause_as a c (subst (λ n. HasCause n c failed) same cause) there back
