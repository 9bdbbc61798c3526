use Rattle.std.proofs.Common.{◌≡◌, ℕ, List, Some, sym, subst}
use Rattle.tesla_capture.specs.Formats.{script_is}
use Rattle.tesla_capture.specs.Script.{script}
use Rattle.tesla_capture.specs.Steps.{Gives, Moves, Progress, ahead, step_as}
use Rattle.tesla_capture.specs.declared.record.RecordStep.{RecordStep}
use Rattle.tesla_capture.proofs.StepGiven.{gives_as, moves_as}
use Rattle.tesla_capture.proofs.script.ScriptReader.step.Goals as goal

pub returns-clause-gives : goal.returns-clause-gives
returns-clause-gives g c =
    let now = c.next.new.self in
    let left = ahead now (g.S.Source.left c.next.new.source) in
    subst (λ (step : RecordStep). (rest : List ℕ) → ahead c.args.self.now (g.S.Source.left c.args.source.now) ≡ Some rest → Gives script step c.args.self.now.place rest now.place left c.next.new.room) (sym c.step_as.ensures)
    (subst (λ (p : Progress). (rest : List ℕ) → ahead p (g.S.Source.left c.args.source.now) ≡ Some rest → Gives script (step_as c.next.result) p.place rest now.place left c.next.new.room) c.self.view_is
    (λ rest e. gives_as script c.next.result _ rest now.place left c.next.new.room (c.next.ensures.gives rest e)))

pub returns-clause-moves : goal.returns-clause-moves
returns-clause-moves g c =
    let now = c.next.new.self in
    subst (λ (step : RecordStep). Moves script step c.args.self.now.place now.place) (sym c.step_as.ensures)
    (subst (λ (p : Progress). Moves script (step_as c.next.result) p.place now.place) c.self.view_is
    (moves_as script script_is c.next.result _ now.place c.args.into.now c.next.new.room c.next.ensures.room c.next.ensures.moves))
