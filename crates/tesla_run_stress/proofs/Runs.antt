-- A run of stress, from its steps.
use Rattle.std.proofs.Common.{◌≡◌, ◌≤◌, ◌<◌, inl, inr, ℕ, Option, Some, None, List, [], ◌∷◌, length, get_or, map, refl, sym, ap, arith, append-nil}
use Rattle.tesla_desk.specs.Outside.{Opening, Told, with_openings}
use Rattle.tesla_desk.proofs.Counts.{cause_none, cause_plain}
use Rattle.tesla_front.specs.OutcomeView.{OutcomeView, Failed}
use Rattle.tesla_front.specs.Command.{Performs}
use Rattle.tesla_front.specs.declared.fault.Fault.{Fault}
use Rattle.tesla_front.specs.declared.fault.Fault.TheVariants as faults
use Rattle.tesla_run_stress.specs.Arguments.{StressArguments}
use Rattle.tesla_run_stress.specs.Stress.{IsReport, stress}

-- a list of three, told each of them
pub three_is : {A : Type 0} (f : A → List ℕ) (xs : List A) (a b c : A) → 3 ≤ length xs → length xs < 4 → a ≡ get_or xs 0 a → b ≡ get_or xs 1 b → c ≡ get_or xs 2 c → map f xs ≡ f a ∷ f b ∷ f c ∷ []
three_is f [] a b c least most _ _ _ = absurd (omega arith)
three_is f (x0 ∷ []) a b c least most _ _ _ = absurd (omega arith)
three_is f (x0 ∷ x1 ∷ []) a b c least most _ _ _ = absurd (omega arith)
three_is f (x0 ∷ x1 ∷ x2 ∷ []) a b c least most p0 p1 p2 = cc
three_is f (x0 ∷ x1 ∷ x2 ∷ x3 ∷ xs) a b c least most _ _ _ = absurd (omega arith)

-- nothing was asked to be opened
asked_none : (told : Option (List Opening)) → told ≡ with_openings told []
asked_none None = refl
asked_none (Some openings) = ap (λ (l : List Opening). Some l) (sym (append-nil openings))

-- it came to no fault but want of memory
one_fault : (arguments : StressArguments) (outcome : OutcomeView) (fault : Fault) → IsReport arguments outcome → outcome ≡ Failed fault → fault ≡ faults.NoMemory
one_fault arguments outcome fault (inl done) is = absurd cc
one_fault arguments outcome fault (inr memory) is = cc

-- what was played is a run over a desk that wasn't touched
pub performs : (arguments : StressArguments) (desk : Told) (outcome : OutcomeView) → IsReport arguments outcome → Performs stress arguments desk desk outcome
performs arguments desk outcome is = record {
  named = tt;
  opened = 0;
  opens = record { asked = asked_none desk.openings; pages = λ name none. refl; lefts = λ name none. refl };
  does = is;
  counts = record {
    reads = cause_none desk.faults.reads desk.faults.reads refl (λ e. absurd (let no = one_fault arguments outcome faults.Read is e in cc));
    writes = cause_plain desk.faults.writes desk.faults.writes (cause_none desk.faults.writes desk.faults.writes refl (λ e. absurd (let no = one_fault arguments outcome faults.Write is e in cc)));
    openings = cause_none desk.faults.openings desk.faults.openings refl (λ e. absurd (let no = one_fault arguments outcome faults.Open is e in cc));
  };
}
