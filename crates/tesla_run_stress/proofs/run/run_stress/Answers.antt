use Rattle.std.proofs.Common.{map, string_bytes}
use Rattle.tesla_front.proofs.Commands.{runs_form, runs_usage}
use Rattle.tesla_run_stress.specs.Arguments.{arguments_of}
use Rattle.tesla_run_stress.specs.Stress.{stress}
use Rattle.tesla_run_stress.proofs.Runs.{performs}
use Rattle.tesla_run_stress.proofs.run.run_stress.Goals as goal

pub returns-in-Some-clause-runs : goal.returns-in-Some-clause-runs
returns-in-Some-clause-runs g c =
    rw c.outcome_of.ensures (runs_form stress arguments_of (map string_bytes c.args.words.now) c.arguments_in.result c.in-Some.arguments _ _ _ c.in-Some.is c.arguments_in.ensures.only c.in-Some.ensures.found (performs _ _ _ c.perform.ensures))

pub returns-in-None-clause-runs : goal.returns-in-None-clause-runs
returns-in-None-clause-runs g c = runs_usage stress arguments_of (map string_bytes c.args.words.now) c.arguments_in.result _ c.in-None.is c.arguments_in.ensures.only
