use Rattle.std.proofs.Common.{Some, refl, subst, sym}
use Rattle.tesla_fitting.specs.declared.config.Config.{Config}
use Rattle.tesla_run_receive.proofs.Allowed.{releases_all}
use Rattle.tesla_run_receive.proofs.Complete.{receiver_completes}
use Rattle.tesla_run_receive.proofs.Performed.{lives_none, lives_run, performs_with, runs_as}
use Rattle.tesla_run_receive.specs.Receive.{of_receiver}
use Rattle.tesla_run_receive.specs.Running.{receiving}
use Rattle.tesla_run_receive.specs.Arguments.{workers_wanted}
use Rattle.tesla_run_receive.specs.OutputArguments.{arguments_of}
use Rattle.tesla_run_receive.specs.record.Allowed.{MayWriteTailOf}
use Rattle.tesla_run_receive.specs.record.Record.{HoldsTail, form_of_record}
use Rattle.tesla_run_receive.proofs.record.record.perform.Goals as goal

pub run_recorded-requires-clause-released : goal.run_recorded-requires-clause-released
run_recorded-requires-clause-released g c κs within =
    let (setup, found, config) = c.in-Ok.ensures.found in
    releases_all of_receiver g.D.Pieces.Output.name g.D.Pieces.Output.written g.D.Pieces.Output.may_write g.D.Time.Clock.read_for (arguments_of c.args.arguments.now).receive (g.D.Environment.told c.args.desk.now) setup c.in-Ok.receiver.config found config c.requires.released

pub run_recorded-requires-clause-output : goal.run_recorded-requires-clause-output
run_recorded-requires-clause-output g c κs within =
    let arguments = arguments_of c.args.arguments.now in
    let (setup, found, config) = c.in-Ok.ensures.found in
    subst (λ (cfg : Config). MayWriteTailOf g.D.Pieces.Output.name g.D.Pieces.Output.written g.D.Pieces.Output.may_write g.D.Time.Clock.read_for cfg arguments.number arguments.output) (sym config) (c.requires.output setup found)

pub returns-in-Ok : goal.returns-in-Ok
returns-in-Ok g c =
    let arguments = arguments_of c.args.arguments.now in
    let is = c.requires.form.1 in
    let made = c.in-Ok.ensures in
    let (setup, found, config) = made.found in
    let (cfg, runs) = c.run_recorded.ensures in
    performs_with form_of_record arguments _ _ _ _
    (lives_run of_receiver receiver_completes (λ _. HoldsTail arguments.number) (Some arguments.output) arguments.receive _ setup cfg _ _ _ _ _ is.received (is.named, is.not_sink) made.pages made.live found _ made.opened made.causes
    (runs_as receiving _ (Some arguments.output) _ _ (workers_wanted arguments.receive) cfg _ _ _ _ config runs))

pub returns-in-Err : goal.returns-in-Err
returns-in-Err g c =
    let arguments = arguments_of c.args.arguments.now in
    let is = c.requires.form.1 in
    let made = c.in-Err.ensures in
    performs_with form_of_record arguments _ _ _ _
    (lives_none of_receiver (λ _. HoldsTail arguments.number) (Some arguments.output) arguments.receive _ _ _ _ c.in-Err.stop is.received (is.named, is.not_sink) made.opens made.pages made.live made.refused made.causes refl)
