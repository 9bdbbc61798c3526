use Rattle.std.proofs.Common.{ap, inl, refl, subst, sym}
use Rattle.tesla_run_receive.proofs.Performed.{runs_as}
use Rattle.tesla_run_receive.specs.Arguments.{workers_wanted}
use Rattle.tesla_run_receive.specs.OutputArguments.{arguments_of}
use Rattle.tesla_run_receive.specs.Running.{receiving}
use Rattle.tesla_run_receive.specs.record.Allowed.{MayWriteTailOf}
use Rattle.tesla_state.specs.State.{State}
use Rattle.tesla_run_receive.proofs.record.record.run_recorded.Goals as goal

pub run_station-requires-clause-fits : goal.run_station-requires-clause-fits
run_station-requires-clause-fits g c κs within =
    let arguments = c.args.arguments.now in (
      c.in-Ok.ensures.keep,
      subst (λ (state : State). MayWriteTailOf g.D.Pieces.Output.name g.D.Pieces.Output.written g.D.Pieces.Output.may_write g.D.Time.Clock.read_for state.config arguments.number arguments.output.now) (sym c.in-Ok.ensures.station) c.requires.output,
    )

pub returns : goal.returns
returns g c =
    (_, runs_as receiving _ _ _ _ (workers_wanted (arguments_of c.args.arguments.now).receive) _ _ _ _ _ (ap (λ (state : State). state.config) c.in-Ok.ensures.station) c.run_station.ensures)

pub returns-in_default : goal.returns-in_default
returns-in_default g c = (record { config = c.args.receiver.config; keep = c.args.arguments.now.number }, inl (record { same = refl; none = refl; outcome_is = refl }))
