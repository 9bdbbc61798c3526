-- The input and the output of a command, of which one wasn't opened.
use Rattle.std.proofs.Common.{◌≡◌, ◌∙◌, inl, inr, ℕ, ◌≤◌, Option, Result, Ok, Err, List, [], ◌∷◌, refl, sym, ap, subst, arith}
use Rattle.tesla_desk.specs.Faults.{Faults, HasCauses, after_source}
use Rattle.tesla_desk.specs.Outside.{Told, Opened, OfSource, OfSink, OpensSource, OpensSink, ClosesSource, with_opening}
use Rattle.tesla_desk.specs.declared.desk.OpenRefusal.{OpenRefusal}
use Rattle.tesla_desk.specs.declared.desk.OpenRefusal.TheVariants as refused
use Rattle.tesla_desk.proofs.Counts.{causes_opening, counts_stay}
use Rattle.tesla_desk.proofs.Told.{openings_first}
use Rattle.tesla_front.specs.Fault.{unopened}
use Rattle.tesla_front.specs.Openings.{Opens}
use Rattle.tesla_front.specs.declared.fault.Fault.{Fault}
use Rattle.tesla_front.specs.declared.fault.Fault.TheVariants as faults
use Rattle.tesla_convert.specs.Files.{OpensNotBoth}
use Rattle.tesla_convert.proofs.Unread.{unread_page}
use Rattle.tesla_front.proofs.Openings.{not_first_read, opens_first, opens_none, pages_tried}

open_failed : (A : Type 0) (refusal : OpenRefusal) → unopened refusal ≡ faults.Open → ◌≡◌ {A = Result A OpenRefusal} (Err refusal) (Err refused.Failed)
open_failed A refused.Failed e = refl
open_failed A refused.NoMemory e = absurd cc

failed_open : (A : Type 0) (refusal : OpenRefusal) → ◌≡◌ {A = Result A OpenRefusal} (Err refusal) (Err refused.Failed) → unopened refusal ≡ faults.Open
failed_open A refused.Failed e = refl
failed_open A refused.NoMemory e = absurd cc

no_read : (refusal : OpenRefusal) → unopened refusal ≡ faults.Read → ⊥
no_read refused.Failed e = absurd cc
no_read refused.NoMemory e = absurd cc

no_write : (refusal : OpenRefusal) → unopened refusal ≡ faults.Write → ⊥
no_write refused.Failed e = absurd cc
no_write refused.NoMemory e = absurd cc

no_input_opens : {A : Type 0} (input output : List ℕ) (refusal : OpenRefusal) (old new : Told) → OpensSource {A = A} input (Err refusal) old new → (opened : ℕ) × Opens (OfSource input ∷ OfSink output ∷ []) opened old new × (unopened refusal ≡ faults.NoMemory → opened ≤ 0)
no_input_opens input output refused.Failed old new tried =
    (1, opens_first (OfSource input) (OfSink output ∷ []) old new tried.asked (λ n none. tried.pages n) (λ n none. tried.lefts n), λ e. absurd cc)
no_input_opens input output refused.NoMemory old new tried = (0, opens_none (OfSource input ∷ OfSink output ∷ []) old new tried.asked tried.pages tried.lefts, λ e. omega arith)

-- the input wasn't opened
pub no_input : (A : Type 0) (input output : List ℕ) (refusal : OpenRefusal) (fault : Fault) (old new : Told) → fault ≡ unopened refusal → OpensSource {A = A} input (Err refusal) old new → OpensNotBoth input output old new fault
no_input A input output refusal fault old new is tried =
    let it = no_input_opens {A = A} input output refusal old new tried in
    subst (λ (f : Fault). OpensNotBoth input output old new f) (sym is) (record {
      opened = it.0;
      opens = it.1;
      pages = tried.pages;
      live = tried.live;
      counts = causes_opening old.faults new.faults tried.counts (no_read refusal) (no_write refusal) (open_failed A refusal) (failed_open A refusal);
      kind = (no_read refusal, no_write refusal);
      unread = λ e. inl (it.2 e);
    })

no_output_opens : {A : Type 0} (B : Type 0) (input output name : List ℕ) (it : A) (left : Option (List ℕ)) (count : ℕ) (refusal : OpenRefusal) (old mid tried new : Told) → name ≡ input → OpensSource {A = A} input (Ok it) old mid → OpensSink {A = B} output (Err refusal) mid tried → ClosesSource name left count tried new → (opened : ℕ) × Opens (OfSource input ∷ OfSink output ∷ []) opened old new
no_output_opens {A} B input output name it left count refused.Failed old mid tried new named opened sink closed = (
  2,
  record {
    asked = closed.asked ∙ sink.asked ∙ ap (λ told. with_opening told (OfSink output)) opened.asked ∙ openings_first old.openings (OfSource input) (OfSink output ∷ []);
    pages = λ n none. closed.pages n ∙ pages_tried {A = B} output (Err refused.Failed) mid tried sink n ∙ opened.pages n;
    lefts = λ n none. closed.lefts n (λ e. not_first_read n input (OfSink output ∷ []) none (e ∙ named)) ∙ sink.lefts n ∙ opened.lefts n;
  },
)
no_output_opens {A} B input output name it left count refused.NoMemory old mid tried new named opened sink closed = (
  1,
  opens_first (OfSource input) (OfSink output ∷ []) old new (closed.asked ∙ sink.asked ∙ opened.asked)
      (λ n none. closed.pages n ∙ pages_tried {A = B} output (Err refused.NoMemory) mid tried sink n ∙ opened.pages n)
      (λ n none. closed.lefts n (λ e. not_first_read n input [] none (e ∙ named)) ∙ sink.lefts n ∙ opened.lefts n),
)

closed_sound : (count : ℕ) (before : Faults) → count ≡ 0 → after_source before count ≡ before
closed_sound count before zero = rw zero refl

-- the input was opened, and the output wasn't: the input is closed again
pub no_output : {A : Type 0} (B : Type 0) (input output name : List ℕ) (it : A) (left : Option (List ℕ)) (count : ℕ) (refusal : OpenRefusal) (fault : Fault) (old mid tried new : Told) → fault ≡ unopened refusal → name ≡ input → count ≡ 0 → Opened (old.page input) left → OpensSource {A = A} input (Ok it) old mid → OpensSink {A = B} output (Err refusal) mid tried → ClosesSource name left count tried new → OpensNotBoth input output old new fault
no_output {A} B input output name it left count refusal fault old mid tried new is named sound whole_left opened sink closed =
    let opens = no_output_opens {A = A} B input output name it left count refusal old mid tried new named opened sink closed in
    let first : mid.faults ≡ old.faults = counts_stay old.faults mid.faults opened.counts (λ e. absurd cc) in
    let last : new.faults ≡ tried.faults = closed.counts ∙ closed_sound count tried.faults sound in
    let middle : HasCauses mid.faults tried.faults (unopened refusal ≡ faults.Read) (unopened refusal ≡ faults.Write) (unopened refusal ≡ faults.Open) =
    causes_opening mid.faults tried.faults sink.counts (no_read refusal) (no_write refusal) (open_failed B refusal) (failed_open B refusal) in
    let whole : HasCauses old.faults new.faults (unopened refusal ≡ faults.Read) (unopened refusal ≡ faults.Write) (unopened refusal ≡ faults.Open) =
    subst (λ (f : Faults). HasCauses old.faults f (unopened refusal ≡ faults.Read) (unopened refusal ≡ faults.Write) (unopened refusal ≡ faults.Open)) (sym last)
    (subst (λ (f : Faults). HasCauses f tried.faults (unopened refusal ≡ faults.Read) (unopened refusal ≡ faults.Write) (unopened refusal ≡ faults.Open)) first middle) in
    subst (λ (f : Fault). OpensNotBoth input output old new f) (sym is) (record {
      opened = opens.0;
      opens = opens.1;
      pages = λ n. closed.pages n ∙ pages_tried {A = B} output (Err refusal) mid tried sink n ∙ opened.pages n;
      live = closed.live ∙ sink.live ∙ opened.live;
      counts = whole;
      kind = (no_read refusal, no_write refusal);
      unread = λ e. inr (unread_page (old.page input) left (new.left input) whole_left (ap new.left (sym named) ∙ closed.own));
    })
