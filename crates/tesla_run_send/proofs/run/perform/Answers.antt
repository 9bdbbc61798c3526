use Rattle.std.proofs.lemmas.Result.{err_from_is_err_and}
use Rattle.tesla_run_send.specs.Arguments.{arguments_of}
use Rattle.tesla_run_send.proofs.Runs.{performs_sent, performs_unsent}
use Rattle.tesla_run_send.proofs.run.perform.Goals as goal

pub returns-in_err-sender-clause-performs : goal.returns-in_err-sender-clause-performs
returns-in_err-sender-clause-performs g c =
    let p = err_from_is_err_and c.from_residual.result c.from_residual.ensures.1 in
    rw (p.1, p.2) (performs_unsent (arguments_of c.args.arguments.now) (g.D.Environment.told c.args.desk.now) _ _ c.requires.files c.in_err-sender.ensures.refused)

pub returns-clause-performs : goal.returns-clause-performs
returns-clause-performs g c =
    performs_sent (arguments_of c.args.arguments.now) c.in_ok-sender.sender.stream (g.D.Environment.told c.args.desk.now) _ _ _ c.requires.files c.in_ok-sender.ensures.opened c.send_files.ensures.sends
