use Rattle.std.proofs.Common.{Some, refl}
use Rattle.tesla_run_receive.proofs.Allowed.{releases_all}
use Rattle.tesla_run_receive.proofs.Performed.{lives_none, lives_run, performs_with}
use Rattle.tesla_run_receive.specs.Arguments.{workers_wanted}
use Rattle.tesla_run_receive.specs.OutputArguments.{arguments_of}
use Rattle.tesla_run_receive.specs.Receive.{config_of}
use Rattle.tesla_run_follow.proofs.Complete.{follower_completes}
use Rattle.tesla_run_follow.proofs.Runs.{runs_under}
use Rattle.tesla_run_follow.specs.Follow.{form_of_follow, of_follower}
use Rattle.tesla_run_follow.specs.Status.{HoldsStatus}
use Rattle.tesla_run_follow.proofs.follow.perform.Goals as goal

pub run_followed-requires-clause-released : goal.run_followed-requires-clause-released
run_followed-requires-clause-released g c κs within =
    let (setup, found, config) = c.in-Ok.ensures.found in
    releases_all of_follower g.D.Pieces.Output.name g.D.Pieces.Output.written g.D.Pieces.Output.may_write g.D.Time.Clock.read_for (arguments_of c.args.arguments.now).receive (g.D.Environment.told c.args.desk.now) setup c.in-Ok.follower.config found config c.requires.released

pub returns-in-Ok : goal.returns-in-Ok
returns-in-Ok g c =
    let arguments = arguments_of c.args.arguments.now in
    let is = c.requires.form.1.form in
    let made = c.in-Ok.ensures in
    let (setup, found, config) = made.found in
    let (cfg, runs) = c.run_followed.ensures in
    performs_with form_of_follow arguments _ _ _ _
    (lives_run of_follower follower_completes (λ setup. HoldsStatus (config_of arguments.receive setup)) (Some arguments.output) arguments.receive _ setup cfg _ _ _ _ _ is.received (is.named, is.not_sink) made.pages made.live found _ made.opened made.causes
    (runs_under (Some arguments.output) (workers_wanted arguments.receive) cfg _ _ _ _ _ _ config runs))

pub returns-in-Err : goal.returns-in-Err
returns-in-Err g c =
    let arguments = arguments_of c.args.arguments.now in
    let is = c.requires.form.1.form in
    let made = c.in-Err.ensures in
    performs_with form_of_follow arguments _ _ _ _
    (lives_none of_follower (λ setup. HoldsStatus (config_of arguments.receive setup)) (Some arguments.output) arguments.receive _ _ _ _ c.in-Err.stop is.received (is.named, is.not_sink) made.opens made.pages made.live made.refused made.causes refl)
