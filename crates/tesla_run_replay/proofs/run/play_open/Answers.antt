use Rattle.tesla_front.specs.OutcomeView.{result_view}
use Rattle.tesla_convert.proofs.Meanings.{between_same}
use Rattle.tesla_run_replay.specs.Arguments.{arguments_of}
use Rattle.tesla_run_replay.specs.Playing.{meaning_by}
use Rattle.tesla_run_replay.specs.Under.{config_of}
use Rattle.tesla_run_replay.proofs.run.play_open.Goals as goal

pub returns-in-Ok-clause-plays : goal.returns-in-Ok-clause-plays
returns-in-Ok-clause-plays g c =
    between_same (meaning_by g.T.Target.may_want (g.T.Target.rule c.in-Ok.target)) (g.T.Target.command.meaning (config_of (arguments_of c.args.arguments.now) c.args.setup)) c.in-Ok.ensures.means _ _ _ _ (result_view c.play_target.result) c.play_target.ensures.plays
