-- What several lines come to that are put one after another.
use Rattle.std.proofs.Common.{◌≡◌, ◌∙◌, inl, inr, ℕ, Bool, true, false, List, [], ◌++◌, Option, refl, sym, subst}
use Rattle.tesla_desk.specs.Faults.{HasCause}
use Rattle.tesla_desk.specs.Outside.{AppendsPrefix}
use Rattle.tesla_desk.proofs.Counts.{cause_as, cause_both, cause_none}
use Rattle.tesla_desk.proofs.Told.{appends_none, prefix_after, prefix_longer, prefix_none, with_more}
use Rattle.tesla_status.specs.Written.{Puts, PutsAll}

-- nothing was put yet
pub puts_none : (before : Option (List ℕ)) (faults : ℕ) → faults ≡ 0 → PutsAll [] before before faults false
puts_none before faults none = record { all = λ no. appends_none before; prefix = prefix_none before []; cause = cause_none 0 faults none (λ e. absurd cc) }

-- a text more was
pub puts_more : (text more : List ℕ) (before old new : Option (List ℕ)) (faults count : ℕ) (was is : Bool) → PutsAll text before old faults was → Puts more old new faults count was is → PutsAll (text ++ more) before new count is
puts_more text more before old new faults count true is all puts =
    let still = puts.still refl in
    record {
      all = λ no. absurd (let clash : true ≡ false = sym still.0 ∙ no in cc);
      prefix = subst (λ (w : Option (List ℕ)). AppendsPrefix before w (text ++ more)) (sym still.1) (prefix_longer before old text more all.prefix);
      cause = subst (λ (n : ℕ). HasCause 0 n (is ≡ true)) (sym still.2) (cause_as 0 faults all.cause (λ e. refl) (λ e. still.0));
    }
puts_more text more before old new faults count false is all puts = record {
  all = λ no. with_more before old new text more (all.all refl) (puts.all no).1;
  prefix = prefix_after before old new text more (all.all refl) (puts.prefix refl);
  cause = cause_both 0 faults count all.cause (puts.cause refl) (λ now. inr now) (λ either. elim either [ inl never ↦ absurd cc | inr now ↦ now ]);
}
