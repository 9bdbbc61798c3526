use Rattle.std.proofs.Common.{◌≡◌, ◌⊎◌, ◌∙◌, inl, inr, ℕ, List, [], Option, Ok, Err, codes, refl, sym, subst, ap}
use Rattle.tesla_desk.proofs.Counts.{cause_none, causes_opening, causes_sink, counts_stay}
use Rattle.tesla_desk.proofs.Told.{asks_tried}
use Rattle.tesla_desk.specs.Faults.{Faults, after_sink}
use Rattle.tesla_desk.specs.Outside.{Told, ClosesSink, OpensSink}
use Rattle.tesla_desk.specs.declared.desk.OpenRefusal.{OpenRefusal}
use Rattle.tesla_desk.specs.declared.desk.OpenRefusal.TheVariants as refused
use Rattle.tesla_front.specs.OutcomeView.{Failed}
use Rattle.tesla_front.specs.Fault.{fault_status, unopened}
use Rattle.tesla_front.specs.declared.fault.Fault.TheVariants as faults
use Rattle.tesla_front.specs.Run.{console}
use Rattle.tesla_front.proofs.Consoles.{unopened_console}
use Rattle.tesla_cli.specs.program.About.{Prints}
use Rattle.tesla_cli.proofs.program.print_about.Goals as goal

status_unopened : (refusal : OpenRefusal) → (fault_status (unopened refusal) ≡ 0) ⊎ (fault_status (unopened refusal) ≡ 5) ⊎ (fault_status (unopened refusal) ≡ 6) ⊎ (fault_status (unopened refusal) ≡ 7)
status_unopened refused.Failed = inr (inr (inr refl))
status_unopened refused.NoMemory = inr (inr (inl refl))

no_write : (refusal : OpenRefusal) → fault_status (unopened refusal) ≡ 5 → ⊥
no_write refused.Failed e = cc
no_write refused.NoMemory e = cc

open_by : (refusal : OpenRefusal) → fault_status (unopened refusal) ≡ 7 → Failed (unopened refusal) ≡ Failed faults.Open
open_by refused.Failed e = refl
open_by refused.NoMemory e = absurd cc

by_open : (refusal : OpenRefusal) → Failed (unopened refusal) ≡ Failed faults.Open → fault_status (unopened refusal) ≡ 7
by_open refused.Failed e = refl
by_open refused.NoMemory e = absurd cc

-- the console wasn't opened
unprinted : (A : Type 0) (refusal : OpenRefusal) (old new : Told) → OpensSink {A = A} (codes "-") (Err refusal) old new → Prints old new (fault_status (unopened refusal))
unprinted A refusal old new opens =
    let none = unopened_console A refusal old new opens in record {
      asked = none.asked;
      pages = λ name other. none.pages name;
      lefts = none.lefts;
      status_is = status_unopened refusal;
      counts = causes_opening old.faults new.faults none.counts (λ e. e) (no_write refusal) (open_by refusal) (by_open refusal);
    }

pub returns-in-Err-clause-prints : goal.returns-in-Err-clause-prints
returns-in-Err-clause-prints g c =
    let before = g.D.Environment.told c.args.desk.now in
    let after = g.D.Environment.told c.open_sink.new.self in
    subst (λ (status : ℕ). Prints before after status) (sym (c.status-in-Err.ensures ∙ ap fault_status c.from.ensures)) (unprinted _ c.in-Err.refusal before after c.in-Err.ensures.desk)

-- the console was opened and closed, and no write to it failed
printed : {A : Type 0} (it : A) (name : List ℕ) (written : Option (List ℕ)) (faults : ℕ) (old opened new : Told) → name ≡ codes "-" → faults ≡ 0
    → OpensSink {A = A} (codes "-") (Ok it) old opened → ClosesSink name written faults opened new → Prints old new 0
printed {A} it name written faults old opened new named zero opens closes =
    let same : opened.faults ≡ old.faults = counts_stay old.faults opened.faults opens.counts (λ e. cc) in
    let closed : new.faults ≡ after_sink old.faults faults = closes.counts ∙ ap (λ (f : Faults). after_sink f faults) same in record {
      asked = asks_tried {A = A} console [] (Ok it) old.openings new.openings (closes.asked ∙ opens.asked);
      pages = λ n other. closes.pages n (λ is. other (is ∙ named)) ∙ opens.pages n other;
      lefts = λ n. closes.lefts n ∙ opens.lefts n;
      status_is = inl refl;
      counts = causes_sink {failed = ⊥} old.faults new.faults faults closed (cause_none 0 faults zero (λ e. e)) (λ e. e) (λ e. cc) (λ e. absurd e) (λ e. cc);
    }

pub returns-then-done-clause-prints : goal.returns-then-done-clause-prints
returns-then-done-clause-prints g c =
    let wrote = c.write_about-done.ensures in
    let done = c.if-done.true in
    printed c.in-Ok.console _ _ _ _ _ _ (wrote.name ∙ c.in-Ok.ensures.named) (wrote.cause.still (λ failed. cc) ∙ c.in-Ok.ensures.fresh) c.in-Ok.ensures.desk c.close_sink.ensures.desk
