use Rattle.std.proofs.Common.{ℕ, List, sym, subst}
use Rattle.tesla_relay.specs.Posts.{PostSeen}
use Rattle.tesla_run_feed.specs.Arguments.{arguments_of}
use Rattle.tesla_run_feed.proofs.Fed.{fed_linked, fed_roomless, fed_unlinked}
use Rattle.tesla_run_feed.specs.Due.{MaySendLasting}
use Rattle.tesla_run_feed.specs.Listing.{streams_in}
use Rattle.tesla_run_feed.proofs.run.feed_files.Goals as goal

pub run_linked-requires-clause-asks : goal.run_linked-requires-clause-asks
run_linked-requires-clause-asks g c = λ lifetimes within. c.requires.asks

pub run_linked-requires-clause-any_link : goal.run_linked-requires-clause-any_link
run_linked-requires-clause-any_link g c = λ lifetimes within. c.requires.any_link

pub run_linked-requires-clause-due : goal.run_linked-requires-clause-due
run_linked-requires-clause-due g c = λ lifetimes within.
    let port = g.D.Port.Post in let clock = g.D.Time.Clock in
    let seen : g.row.D-Port.Denot → PostSeen = λ post. record { name = port.name post; sent = port.sent post; faults = port.faults post } in
    subst (λ (names : List (List ℕ)). MaySendLasting seen port.may_send clock.gave clock.read_for names (streams_in c.args.list)) (sym c.as_slice.ensures) c.requires.due

pub run_linked-requires-clause-counted : goal.run_linked-requires-clause-counted
run_linked-requires-clause-counted g c = λ lifetimes within. c.requires.counted

pub returns-in_default : goal.returns-in_default
returns-in_default g c = fed_roomless g.D.Pause.Gate.over (streams_in c.args.list) (arguments_of c.args.arguments.now) (g.D.Environment.told c.args.desk.now)

pub returns-in-Ok-open_link : goal.returns-in-Ok-open_link
returns-in-Ok-open_link g c =
    fed_linked g.D.Pause.Gate.over (streams_in c.args.list) (arguments_of c.args.arguments.now) c.requires.form.0 c.in-Ok-open_link.link _ _ _ (g.D.Environment.told c.args.desk.now) (g.D.Environment.told c.open_link.new.self) (g.D.Environment.told c.run_linked.new.desk) _ c.requires.form.1 c.in-Ok-open_link.ensures.named c.as_slice.ensures c.in-Ok-open_link.ensures.opened c.in-Ok-open_link.ensures.desk c.run_linked.ensures

pub returns-in-Err : goal.returns-in-Err
returns-in-Err g c =
    fed_unlinked g.D.Pause.Gate.over (streams_in c.args.list) (arguments_of c.args.arguments.now) c.in-Err.refusal _ (g.D.Environment.told c.args.desk.now) (g.D.Environment.told c.open_link.new.self) c.from.ensures c.in-Err.ensures.desk
