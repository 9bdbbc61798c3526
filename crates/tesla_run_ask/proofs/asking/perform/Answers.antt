use Rattle.tesla_run_ask.specs.Arguments.{ask_arguments}
use Rattle.tesla_run_ask.proofs.Runs.{performs_ask}
use Rattle.tesla_run_ask.proofs.asking.perform.Goals as goal

pub returns-clause-performs : goal.returns-clause-performs
returns-clause-performs g c =
    performs_ask (ask_arguments c.args.arguments.now) c.write_ask-message.result (g.D.Environment.told c.args.desk.now) _ c.write_message.result c.requires.files c.write_ask-message.ensures.spelled c.write_message.ensures.opens c.write_message.ensures.writes c.write_message.ensures.causes
