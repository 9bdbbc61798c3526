use Rattle.std.proofs.Common.{ℕ, subst, ◌∙◌}
use Rattle.std.proofs.lemmas.Result.{err_from_is_err_and}
use Rattle.tesla_front.specs.OutcomeView.{stop_view}
use Rattle.tesla_front.specs.Seeds.{IsSeedsIn, IsNoSeeds}
use Rattle.tesla_run_chain.specs.Arguments.{arguments_of}
use Rattle.tesla_run_chain.proofs.Runs.{performs_lacking, performs_making}
use Rattle.tesla_run_chain.proofs.run.perform.Goals as goal

pub returns-in_err-seeds-clause-performs : goal.returns-in_err-seeds-clause-performs
returns-in_err-seeds-clause-performs g c =
    let arguments = arguments_of c.args.arguments.now in
    let p = err_from_is_err_and c.from_residual.result c.from_residual.ensures.1 in
    rw (p.1, p.2) (performs_lacking arguments (g.D.Environment.told c.args.desk.now) _ c.in_err-seeds.field-0.0 c.requires.files c.seeds_under.ensures.opens
    (subst (λ (n : ℕ). IsNoSeeds n ((g.D.Environment.told c.args.desk.now).page arguments.secret) (stop_view c.in_err-seeds.field-0.0)) c.len-count.ensures.value c.in_err-seeds.ensures.refused) c.in_err-seeds.ensures.causes)

pub returns-clause-performs : goal.returns-clause-performs
returns-clause-performs g c =
    let arguments = arguments_of c.args.arguments.now in
    performs_making arguments c.in_ok-seeds.seeds (g.D.Environment.told c.args.desk.now) _ _ c.write_made.result c.requires.files c.in_ok-seeds.ensures.opened c.in_ok-seeds.ensures.pages c.in_ok-seeds.ensures.causes (c.in_ok-seeds.ensures.count ∙ c.len-count.ensures.value)
    (subst (λ (n : ℕ). IsSeedsIn n ((g.D.Environment.told c.args.desk.now).page arguments.secret) c.in_ok-seeds.seeds) c.len-count.ensures.value c.in_ok-seeds.ensures.found) c.write_made.ensures.opens c.write_made.ensures.writes c.write_made.ensures.causes
