use Rattle.std.proofs.lemmas.Result.{err_from_is_err_and}
use Rattle.tesla_run_info.specs.seeds.Arguments.{arguments_of}
use Rattle.tesla_run_info.proofs.seeds.Runs.{performs_drawn, performs_none}
use Rattle.tesla_run_info.proofs.seeds.run.perform.Goals as goal

pub returns-in_err-drawn-clause-performs : goal.returns-in_err-drawn-clause-performs
returns-in_err-drawn-clause-performs g c =
    let arguments = arguments_of c.args.arguments.now in
    let p = err_from_is_err_and c.from_residual.result c.from_residual.ensures.1 in
    rw (p.1, p.2) (performs_none arguments (g.D.Environment.told c.args.desk.now) _ c.in_err-drawn.field-0.0 c.requires.files c.draw.ensures.opens c.in_err-drawn.ensures.refused c.in_err-drawn.ensures.causes)

pub returns-clause-performs : goal.returns-clause-performs
returns-clause-performs g c =
    let arguments = arguments_of c.args.arguments.now in
    performs_drawn arguments c.in_ok-drawn.drawn (g.D.Environment.told c.args.desk.now) _ _ c.write_drawn.result c.requires.files c.in_ok-drawn.ensures.opened c.in_ok-drawn.ensures.pages c.in_ok-drawn.ensures.causes c.in_ok-drawn.ensures.count
    c.in_ok-drawn.ensures.found c.in_ok-drawn.ensures.sound c.write_drawn.ensures.opens c.write_drawn.ensures.writes c.write_drawn.ensures.causes
