use Rattle.std.proofs.Common.{inl, refl}
use Rattle.tesla_counters.specs.Counts.{no_counters}
use Rattle.tesla_run_receive.specs.Arguments.{workers_wanted}
use Rattle.tesla_run_receive.specs.OutputArguments.{arguments_of}
use Rattle.tesla_run_follow.proofs.Runs.{runs_over}
use Rattle.tesla_run_follow.proofs.follow.run_followed.Goals as goal

pub returns : goal.returns
returns g c =
    let wanted = workers_wanted (arguments_of c.args.arguments.now).receive in
    (_, runs_over _ wanted _ _ _ _ _ _ _ c.in-Ok.ensures.follower c.run_station.ensures)

pub returns-in_default : goal.returns-in_default
returns-in_default g c = (record { config = c.args.follower.config; counters = no_counters }, inl (record { same = refl; none = refl; outcome_is = refl }))
