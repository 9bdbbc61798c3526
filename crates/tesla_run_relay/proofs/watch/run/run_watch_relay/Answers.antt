use Rattle.std.proofs.Common.{map, string_bytes}
use Rattle.tesla_front.proofs.Commands.{runs_form, runs_usage}
use Rattle.tesla_run_relay.specs.watch.Arguments.{arguments_of}
use Rattle.tesla_run_relay.specs.watch.Watch.{watch_relay}
use Rattle.tesla_run_relay.proofs.watch.run.run_watch_relay.Goals as goal

pub returns-in-Some : goal.returns-in-Some
returns-in-Some g c =
    let old = g.D.Environment.told c.args.desk.now in
    let new = g.D.Environment.told c.perform.new.desk in
    runs_form (watch_relay old.live new.live) arguments_of (map string_bytes c.args.words.now) c.arguments_in.result c.in-Some.arguments old new _ c.in-Some.is c.arguments_in.ensures.only c.in-Some.ensures.found c.perform.ensures

pub returns-in-None : goal.returns-in-None
returns-in-None g c =
    let old = g.D.Environment.told c.args.desk.now in
    runs_usage (watch_relay old.live old.live) arguments_of (map string_bytes c.args.words.now) c.arguments_in.result old c.in-None.is c.arguments_in.ensures.only

pub perform-requires-clause-due : goal.perform-requires-clause-due
perform-requires-clause-due g c κs within = λ post datagram due. c.requires.due post datagram (record { arguments = arguments_of c.in-Some.arguments; form = c.in-Some.ensures.found; next = due })

pub perform-requires-clause-asks : goal.perform-requires-clause-asks
perform-requires-clause-asks g c κs within = c.requires.asks (arguments_of c.in-Some.arguments) c.in-Some.ensures.found

pub perform-requires-clause-tallies : goal.perform-requires-clause-tallies
perform-requires-clause-tallies g c κs within = c.requires.tallies (arguments_of c.in-Some.arguments) c.in-Some.ensures.found
