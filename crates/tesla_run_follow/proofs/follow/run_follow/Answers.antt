use Rattle.std.proofs.Common.{None, map, string_bytes}
use Rattle.tesla_front.proofs.Commands.{runs_form, runs_usage}
use Rattle.tesla_run_receive.specs.OutputArguments.{arguments_of}
use Rattle.tesla_run_follow.specs.Follow.{following}
use Rattle.tesla_run_follow.proofs.follow.run_follow.Goals as goal

pub perform-outcome-requires-clause-released : goal.perform-outcome-requires-clause-released
perform-outcome-requires-clause-released g c κs within = c.requires.released (arguments_of c.in-Some.arguments) c.in-Some.ensures.found

pub perform-outcome-requires-clause-output : goal.perform-outcome-requires-clause-output
perform-outcome-requires-clause-output g c κs within = c.requires.output (arguments_of c.in-Some.arguments) c.in-Some.ensures.found

pub returns-in-Some-clause-runs : goal.returns-in-Some-clause-runs
returns-in-Some-clause-runs g c =
    let old = g.D.Environment.told c.args.desk.now in
    let new = g.D.Environment.told c.perform-outcome.new.desk in
    rw c.outcome_of.ensures (runs_form (following old.live new.live c.perform-outcome.result.1) arguments_of (map string_bytes c.args.words.now) c.words_in.result c.in-Some.arguments old new _ c.in-Some.is c.words_in.ensures.only c.in-Some.ensures.found c.perform-outcome.ensures)

pub returns-in-None-clause-runs : goal.returns-in-None-clause-runs
returns-in-None-clause-runs g c =
    let old = g.D.Environment.told c.args.desk.now in
    rw c.without_history.ensures.outcome (rw c.without_history.ensures.last (runs_usage (following old.live old.live None) arguments_of (map string_bytes c.args.words.now) c.words_in.result old c.in-None.is c.words_in.ensures.only))
