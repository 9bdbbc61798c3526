use Rattle.std.proofs.Common.{map, string_bytes}
use Rattle.tesla_front.proofs.Printing.{prints_form, prints_usage}
use Rattle.tesla_run_audit.specs.show.Arguments.{arguments_of}
use Rattle.tesla_run_audit.specs.show.Show.{show}
use Rattle.tesla_run_audit.proofs.show.run.run_show.Goals as goal

pub returns-in-Some-clause-prints : goal.returns-in-Some-clause-prints
returns-in-Some-clause-prints g c =
    prints_form show arguments_of (map string_bytes c.args.words.now) c.arguments_in.result c.in-Some.arguments _ _ _ _ _ _ c.in-Some.is c.arguments_in.ensures.only c.in-Some.ensures.found c.perform.ensures.performs

pub returns-in-None-clause-prints : goal.returns-in-None-clause-prints
returns-in-None-clause-prints g c =
    prints_usage show arguments_of (map string_bytes c.args.words.now) c.arguments_in.result _ _ _ c.requires.sound c.in-None.is c.arguments_in.ensures.only
