use Rattle.std.proofs.Common.{◌∙◌}
use Rattle.tesla_front.specs.OutcomeView.{result_view}
use Rattle.tesla_convert.proofs.Closed.{converts_closed, converts_unopened}
use Rattle.tesla_run_replay.specs.Arguments.{arguments_of}
use Rattle.tesla_run_replay.specs.Under.{config_of}
use Rattle.tesla_run_replay.proofs.Under.{closes_named}
use Rattle.tesla_run_replay.proofs.run.play_files.Goals as goal

pub returns-in-Ok-clause-converts : goal.returns-in-Ok-clause-converts
returns-in-Ok-clause-converts g c =
    let capture = c.args.arguments.now.names.capture.now in
    let out = c.args.arguments.now.names.out.now in
    let input = c.play_open-outcome.ensures.input ∙ c.in-Ok.ensures.names.0 in
    let output = c.play_open-outcome.ensures.output ∙ c.in-Ok.ensures.names.1 in
    converts_closed (g.T.Target.command.meaning (config_of (arguments_of c.args.arguments.now) c.args.setup)) capture out
    (g.D.In.Source.left c.in-Ok.source) (g.D.Out.Sink.written c.in-Ok.out) (g.D.In.Source.left c.play_open-outcome.new.source) (g.D.Out.Sink.written c.play_open-outcome.new.out) (g.D.In.Source.faults c.play_open-outcome.new.source) (g.D.Out.Sink.faults c.play_open-outcome.new.out)
    (result_view c.play_open-outcome.result) (g.D.Environment.told c.args.desk.now) (g.D.Environment.told c.open_files.new.desk) (g.D.Environment.told c.close_files.new.desk)
    c.in-Ok.ensures.both c.play_open-outcome.ensures.plays c.play_open-outcome.ensures.reads c.play_open-outcome.ensures.writes
    (closes_named capture out (g.D.In.Source.name c.play_open-outcome.new.source) (g.D.Out.Sink.name c.play_open-outcome.new.out)
    (g.D.In.Source.left c.play_open-outcome.new.source) (g.D.Out.Sink.written c.play_open-outcome.new.out) (g.D.In.Source.faults c.play_open-outcome.new.source) (g.D.Out.Sink.faults c.play_open-outcome.new.out)
    (g.D.Environment.told c.open_files.new.desk) (g.D.Environment.told c.close_files.new.desk) input output c.close_files.ensures)

pub returns-in-Err-clause-converts : goal.returns-in-Err-clause-converts
returns-in-Err-clause-converts g c =
    converts_unopened (g.T.Target.command.meaning (config_of (arguments_of c.args.arguments.now) c.args.setup)) c.args.arguments.now.names.capture.now c.args.arguments.now.names.out.now c.in-Err.fault (g.D.Environment.told c.args.desk.now) _ c.in-Err.ensures.refused
