use Rattle.std.proofs.Common.{map, string_bytes}
use Rattle.tesla_front.proofs.Commands.{runs_form, runs_usage}
use Rattle.tesla_run_info.specs.info.Arguments.{arguments_of}
use Rattle.tesla_run_info.specs.info.Telling.{info}
use Rattle.tesla_run_info.proofs.info.Runs.{are_files}
use Rattle.tesla_run_info.proofs.info.run.run_info.Goals as goal

pub perform-requires-clause-files : goal.perform-requires-clause-files
perform-requires-clause-files g c = λ _ _. are_files (arguments_of c.in-Some.arguments) (map string_bytes c.args.words.now) c.in-Some.ensures.found

pub returns-in-Some-clause-runs : goal.returns-in-Some-clause-runs
returns-in-Some-clause-runs g c =
    rw c.outcome_of.ensures (runs_form (info _ _) arguments_of (map string_bytes c.args.words.now) c.arguments_in.result c.in-Some.arguments _ _ _ c.in-Some.is c.arguments_in.ensures.only c.in-Some.ensures.found c.perform.ensures.performs)

pub returns-in-None-clause-runs : goal.returns-in-None-clause-runs
returns-in-None-clause-runs g c = runs_usage (info _ _) arguments_of (map string_bytes c.args.words.now) c.arguments_in.result _ c.in-None.is c.arguments_in.ensures.only
