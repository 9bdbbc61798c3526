use Rattle.std.proofs.Common.{◌≤◌, subst, sym, ◌∙◌}
use Rattle.tesla_walks.specs.Walking.{Walking}
use Rattle.tesla_walks.proofs.Reached.{goes_on}
use Rattle.tesla_walks.proofs.walk.Walk.walk_to.Goals as goal

pub invariant_of-self : goal.invariant_of-self
invariant_of-self g c =
    let below : c.args.interval ≤ c.self.inside.reached = subst (λ (w : Walking). c.args.interval ≤ w.reached) (sym c.self.view_is) c.requires in
    goes_on c.self.inside.row c.self.inside.reached c.args.interval c.self.inside.key c.new-self-inside.result c.self.inside.mac c.self.invariant below (c.new-self-inside.ensures ∙ c.walk_prepared-walked.ensures.value)
