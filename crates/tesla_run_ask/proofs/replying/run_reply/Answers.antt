use Rattle.std.proofs.Common.{map, string_bytes}
use Rattle.tesla_front.proofs.Commands.{runs_form, runs_usage}
use Rattle.tesla_run_ask.specs.Arguments.{reply_arguments}
use Rattle.tesla_run_ask.specs.Replying.{reply}
use Rattle.tesla_run_ask.proofs.Runs.{reply_files}
use Rattle.tesla_run_ask.proofs.replying.run_reply.Goals as goal

pub perform-requires-clause-files : goal.perform-requires-clause-files
perform-requires-clause-files g c = λ _ _. reply_files (reply_arguments c.in-Some.arguments) (map string_bytes c.args.words.now) c.in-Some.ensures.found

pub returns-in-Some-clause-runs : goal.returns-in-Some-clause-runs
returns-in-Some-clause-runs g c =
    rw c.outcome_of.ensures (runs_form reply reply_arguments (map string_bytes c.args.words.now) c.reply_in.result c.in-Some.arguments _ _ _ c.in-Some.is c.reply_in.ensures.only c.in-Some.ensures.found c.perform.ensures.performs)

pub returns-in-None-clause-runs : goal.returns-in-None-clause-runs
returns-in-None-clause-runs g c = runs_usage reply reply_arguments (map string_bytes c.args.words.now) c.reply_in.result _ c.in-None.is c.reply_in.ensures.only
