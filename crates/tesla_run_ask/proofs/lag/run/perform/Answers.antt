use Rattle.tesla_run_ask.specs.lag.Arguments.{arguments_of}
use Rattle.tesla_run_ask.proofs.lag.Runs.{performs_judging}
use Rattle.tesla_run_ask.proofs.lag.run.perform.Goals as goal

pub returns-in-Ok-clause-performs : goal.returns-in-Ok-clause-performs
returns-in-Ok-clause-performs g c =
    performs_judging (arguments_of c.args.arguments.now) c.in-Ok.texts (g.D.Environment.told c.args.desk.now) _ (c.in-Ok.texts.ask.items) (c.in-Ok.texts.reply.items) (c.in-Ok.texts.key.items) _ c.requires.files c.in-Ok.ensures.ask c.in-Ok.ensures.reply c.in-Ok.ensures.key c.in-Ok.ensures.opened c.in-Ok.ensures.causes c.judge.ensures
