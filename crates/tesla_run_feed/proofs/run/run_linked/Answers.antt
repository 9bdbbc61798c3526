use Rattle.std.proofs.Common.{ℕ, List, map, option_map, subst}
use Rattle.tesla_desk.specs.Outside.{ClosesLink}
use Rattle.tesla_front.specs.OutcomeView.{result_view}
use Rattle.tesla_relay.specs.Opening.{name_of}
use Rattle.tesla_relay.specs.Posts.{PostSeen}
use Rattle.tesla_run_feed.specs.Arguments.{status_of}
use Rattle.tesla_run_feed.specs.Listing.{streams_in}
use Rattle.tesla_run_feed.specs.Steps.{TriesToFeed}
use Rattle.tesla_run_feed.proofs.run.run_linked.Goals as goal

pub try_to_feed-outcome-requires-clause-asks : goal.try_to_feed-outcome-requires-clause-asks
try_to_feed-outcome-requires-clause-asks g c = λ lifetimes within. c.requires.asks

pub try_to_feed-outcome-requires-clause-any_link : goal.try_to_feed-outcome-requires-clause-any_link
try_to_feed-outcome-requires-clause-any_link g c = λ lifetimes within. c.requires.any_link

pub try_to_feed-outcome-requires-clause-due : goal.try_to_feed-outcome-requires-clause-due
try_to_feed-outcome-requires-clause-due g c = λ lifetimes within. c.requires.due

pub try_to_feed-outcome-requires-clause-counted : goal.try_to_feed-outcome-requires-clause-counted
try_to_feed-outcome-requires-clause-counted g c = λ lifetimes within. c.requires.counted

pub returns : goal.returns
returns g c =
    let told = g.D.Environment.told in let port = g.D.Port.Post in let wire = g.D.Wire.Link in
    let seen : g.row.D-Port.Denot → PostSeen = λ post. record { name = port.name post; sent = port.sent post; faults = port.faults post } in
    let now = c.try_to_feed-outcome.new in
    record {
      later = wire.left now.link;
      missed = wire.faults now.link;
      posts = map seen now.posts.items;
      tried = told now.desk;
      tries = subst (λ (n : ℕ). TriesToFeed g.D.Pause.Gate.over (streams_in c.args.parts.list) (map name_of c.args.outputs.names.now) (option_map status_of c.args.outputs.status.now) (wire.left c.args.link) (wire.left now.link) n (wire.faults now.link) (told c.args.desk.now) (told now.desk) (map seen now.posts.items) (result_view c.try_to_feed-outcome.result))
          c.requires.fresh c.try_to_feed-outcome.ensures.tries;
      closed = told c.close_posts.new.desk;
      posts_closed = c.close_posts.ensures.closes;
      link_closed = subst (λ (name : List ℕ). ClosesLink name (wire.left now.link) (wire.faults now.link) (told c.close_posts.new.desk) (told c.close_link.new.self)) c.try_to_feed-outcome.ensures.name c.close_link.ensures.desk;
    }
