use Rattle.std.proofs.Common.{inl, inr, refl}
use Rattle.tesla_run_receive.specs.Arguments.{arguments_of, workers_wanted}
use Rattle.tesla_run_receive.proofs.live.run_session.Goals as goal

pub run_behind-requires-clause-opened : goal.run_behind-requires-clause-opened
run_behind-requires-clause-opened g c κs within =
    let (cfg, first, fits) = c.requires.first in
    (workers_wanted (arguments_of c.args.arguments.now), cfg, g.D.Environment.told c.args.desk.now, c.in-Ok.ensures.opened cfg first, fits)

pub returns-in-Ok : goal.returns-in-Ok
returns-in-Ok g c cfg first fits = c.run_behind.ensures _ cfg _ (c.in-Ok.ensures.opened cfg first) fits

pub returns-in-Err : goal.returns-in-Err
returns-in-Err g c cfg first fits = inr (inl (record { fault = c.in-Err.fault; refused = inl (c.in-Err.ensures.refused c.in-Err.fault refl cfg first); none = refl; outcome_is = refl }))
