use Rattle.std.proofs.Common.{map, string_bytes}
use Rattle.tesla_front.proofs.Commands.{runs_form, runs_usage}
use Rattle.tesla_run_feed.specs.Arguments.{arguments_of}
use Rattle.tesla_run_feed.specs.Feeding.{feed}
use Rattle.tesla_run_feed.proofs.run.run_feed.Goals as goal

pub perform-requires-clause-asks : goal.perform-requires-clause-asks
perform-requires-clause-asks g c = λ lifetimes within. c.requires.asks

pub perform-requires-clause-any_link : goal.perform-requires-clause-any_link
perform-requires-clause-any_link g c = λ lifetimes within. c.requires.any_link

pub perform-requires-clause-due : goal.perform-requires-clause-due
perform-requires-clause-due g c = λ lifetimes within post datagram fed. c.requires.due post datagram (record { arguments = arguments_of c.in-Some.arguments; form = c.in-Some.ensures.found; fed = fed })

pub perform-requires-clause-counted : goal.perform-requires-clause-counted
perform-requires-clause-counted g c = λ lifetimes within it piece counted. c.requires.counted it piece (record { arguments = arguments_of c.in-Some.arguments; form = c.in-Some.ensures.found; counted = counted })

pub returns-in-Some : goal.returns-in-Some
returns-in-Some g c =
    let old = g.D.Environment.told c.args.desk.now in
    let new = g.D.Environment.told c.perform.new.desk in
    rw c.outcome_of.ensures (runs_form (feed g.D.Pause.Gate.over old.live new.live) arguments_of (map string_bytes c.args.words.now) c.arguments_in.result c.in-Some.arguments old new _ c.in-Some.is c.arguments_in.ensures.only c.in-Some.ensures.found c.perform.ensures)

pub returns-in-None : goal.returns-in-None
returns-in-None g c =
    let old = g.D.Environment.told c.args.desk.now in
    runs_usage (feed g.D.Pause.Gate.over old.live old.live) arguments_of (map string_bytes c.args.words.now) c.arguments_in.result old c.in-None.is c.arguments_in.ensures.only
