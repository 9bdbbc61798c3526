use Rattle.std.proofs.lemmas.Result.{err_from_is_err_and}
use Rattle.tesla_run_info.specs.info.Arguments.{arguments_of}
use Rattle.tesla_run_info.proofs.info.Runs.{performs_lacking, performs_told}
use Rattle.tesla_run_info.proofs.info.run.perform.Goals as goal

pub returns-in_err-setup-clause-performs : goal.returns-in_err-setup-clause-performs
returns-in_err-setup-clause-performs g c =
    let p = err_from_is_err_and c.from_residual.result c.from_residual.ensures.1 in
    rw (p.1, p.2) (performs_lacking (arguments_of c.args.arguments.now) (g.D.Environment.told c.args.desk.now) _ c.in_err-setup.field-0.0 c.requires.files c.setup_under.ensures.opens c.in_err-setup.ensures.refused c.in_err-setup.ensures.causes c.setup_under.ensures.live)

pub returns-clause-performs : goal.returns-clause-performs
returns-clause-performs g c =
    performs_told (arguments_of c.args.arguments.now) c.in_ok-setup.setup (g.D.Environment.told c.args.desk.now) _ _ c.tell.result c.requires.files c.in_ok-setup.ensures.opened c.in_ok-setup.ensures.found c.in_ok-setup.ensures.causes
    c.setup_under.ensures.live c.tell.ensures.desk c.tell.ensures.tells
