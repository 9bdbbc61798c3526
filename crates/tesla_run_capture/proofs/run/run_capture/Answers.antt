use Rattle.std.proofs.Common.{map, string_bytes}
use Rattle.tesla_front.proofs.Commands.{runs_form, runs_usage}
use Rattle.tesla_run_capture.specs.Arguments.{arguments_of}
use Rattle.tesla_run_capture.specs.Capture.{capture}
use Rattle.tesla_run_capture.proofs.run.run_capture.Goals as goal

pub perform-requires-clause-due : goal.perform-requires-clause-due
perform-requires-clause-due g c κs within =
    λ it piece named of_link.
    c.requires.due it piece (record { arguments = arguments_of c.in-Some.arguments; form = c.in-Some.ensures.found; named = named; of_link = of_link })

pub returns-in-Some : goal.returns-in-Some
returns-in-Some g c =
    let old = g.D.Environment.told c.args.desk.now in
    let new = g.D.Environment.told c.perform.new.desk in
    runs_form (capture old.live new.live) arguments_of (map string_bytes c.args.words.now) c.arguments_in.result c.in-Some.arguments old new _ c.in-Some.is c.arguments_in.ensures.only c.in-Some.ensures.found c.perform.ensures

pub returns-in-None : goal.returns-in-None
returns-in-None g c =
    let told = g.D.Environment.told c.args.desk.now in
    runs_usage (capture told.live told.live) arguments_of (map string_bytes c.args.words.now) c.arguments_in.result told c.in-None.is c.arguments_in.ensures.only
