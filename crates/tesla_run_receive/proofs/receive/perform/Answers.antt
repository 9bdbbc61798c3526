use Rattle.std.proofs.Common.{None, refl}
use Rattle.tesla_run_receive.specs.Receive.{of_receiver}
use Rattle.tesla_run_receive.specs.Running.{receiving}
use Rattle.tesla_run_receive.specs.Arguments.{arguments_of, workers_wanted}
use Rattle.tesla_run_receive.proofs.Allowed.{releases_all}
use Rattle.tesla_run_receive.proofs.Complete.{receiver_completes}
use Rattle.tesla_run_receive.proofs.Performed.{lives_none, lives_run, performs_receive, runs_as}
use Rattle.tesla_run_receive.proofs.receive.perform.Goals as goal

pub run_station-requires-clause-released : goal.run_station-requires-clause-released
run_station-requires-clause-released g c κs within =
    let (setup, found, config) = c.in-Ok.ensures.found in
    releases_all of_receiver g.D.Pieces.Output.name g.D.Pieces.Output.written g.D.Pieces.Output.may_write g.D.Time.Clock.read_for (arguments_of c.args.arguments.now) (g.D.Environment.told c.args.desk.now) setup c.in-Ok.receiver.config found config c.requires.released

pub returns-in-Ok : goal.returns-in-Ok
returns-in-Ok g c =
    let arguments = arguments_of c.args.arguments.now in
    let (spelled, is) = c.requires.form in
    let made = c.in-Ok.ensures in
    let (setup, found, config) = made.found in
    performs_receive (λ _ _ _. Unit {0}) arguments _ _ _ _
    (lives_run of_receiver receiver_completes (λ _ _ _. Unit {0}) None arguments spelled setup _ _ _ _ _ _ is tt made.pages made.live found _ made.opened made.causes
    (runs_as receiving _ None _ _ (workers_wanted arguments) _ _ _ _ _ config c.run_station.ensures))

pub returns-in-Err : goal.returns-in-Err
returns-in-Err g c =
    let (spelled, is) = c.requires.form in
    let made = c.in-Err.ensures in
    performs_receive (λ _ _ _. Unit {0}) (arguments_of c.args.arguments.now) _ _ _ _
    (lives_none of_receiver _ None _ spelled _ _ _ c.in-Err.stop is tt made.opens made.pages made.live made.refused made.causes refl)
