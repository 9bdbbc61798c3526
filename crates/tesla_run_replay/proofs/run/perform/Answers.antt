use Rattle.tesla_run_replay.specs.Arguments.{arguments_of}
use Rattle.tesla_run_replay.proofs.Under.{setup_none, setup_read}
use Rattle.tesla_run_replay.proofs.run.perform.Goals as goal

pub play_files-requires-clause-capacity : goal.play_files-requires-clause-capacity
play_files-requires-clause-capacity g c = λ _ _. (c.requires.form.1.capacity, c.requires.form.1.limits)

pub returns-in-Ok-clause-performs : goal.returns-in-Ok-clause-performs
returns-in-Ok-clause-performs g c =
    setup_read g.T.Target.command (arguments_of c.args.arguments.now) c.requires.form.1.names c.in-Ok.setup (g.D.Environment.told c.args.desk.now) _ _ _ c.in-Ok.ensures.opened c.in-Ok.ensures.pages c.in-Ok.ensures.found c.in-Ok.ensures.causes c.play_files.ensures.converts

pub returns-in-Err-clause-performs : goal.returns-in-Err-clause-performs
returns-in-Err-clause-performs g c =
    setup_none g.T.Target.command (arguments_of c.args.arguments.now) c.requires.form.1.names (g.D.Environment.told c.args.desk.now) _ c.in-Err.stop c.in-Err.ensures.opens c.in-Err.ensures.refused c.in-Err.ensures.causes
