use Rattle.std.proofs.Common.{◌≡◌, ◌∙◌, inl, inr, List, length, map, ap, arith, refl, subst}
use Rattle.std.specs.Option.{option_map}
use Rattle.std.proofs.lemmas.Result.{err_from_is_err_and}
use Rattle.tesla_clock.specs.Schedule.{Times}
use Rattle.tesla_front.specs.OutcomeView.{result_view}
use Rattle.tesla_relay.specs.Posts.{PostSeen}
use Rattle.tesla_run_feed.specs.Steps.{FeedsReady, streams_ready}
use Rattle.tesla_run_feed.specs.Listing.{streams_in}
use Rattle.tesla_run_feed.proofs.Listed.{times_size}
use Rattle.tesla_run_feed.specs.Arguments.{status_of}
use Rattle.tesla_run_feed.proofs.Due.{ready_counted, ready_due, ready_unsent}
use Rattle.tesla_run_feed.proofs.run.try_to_feed.Goals as goal

pub feed_open-requires-clause-asks : goal.feed_open-requires-clause-asks
feed_open-requires-clause-asks g c = λ lifetimes within. c.requires.asks

pub feed_open-requires-clause-any_link : goal.feed_open-requires-clause-any_link
feed_open-requires-clause-any_link g c = λ lifetimes within. c.requires.any_link

pub feed_open-requires-clause-unsent : goal.feed_open-requires-clause-unsent
feed_open-requires-clause-unsent g c = λ lifetimes within. ready_unsent _ _ _ _ _ _ _ c.in_ok-ready.ensures.ready.opens

pub feed_open-requires-clause-due : goal.feed_open-requires-clause-due
feed_open-requires-clause-due g c = λ lifetimes within.
    let port = g.D.Port.Post in let clock = g.D.Time.Clock in
    let seen : g.row.D-Port.Denot → PostSeen = λ post. record { name = port.name post; sent = port.sent post; faults = port.faults post } in
    ready_due seen port.may_send clock.gave clock.read_for _ _ _ _ _ _ _ _ c.in_ok-ready.ensures.ready c.in_ok-ready.ensures.opening c.requires.due

pub feed_open-requires-clause-counted : goal.feed_open-requires-clause-counted
feed_open-requires-clause-counted g c = λ lifetimes within.
    let out = g.D.Pieces.Output in let clock = g.D.Time.Clock in
    ready_counted out.name out.written out.may_write clock.gave clock.read_for (option_map status_of c.args.outputs.status.now) _ _ _ _ _ _ _ _ _ c.in_ok-ready.ensures.ready c.in_ok-ready.ensures.opening c.in_ok-ready.ensures.schedules c.requires.counted

pub returns-in_err-ready-clause-tries : goal.returns-in_err-ready-clause-tries
returns-in_err-ready-clause-tries g c =
    let p = err_from_is_err_and c.from_residual.result c.from_residual.ensures.1 in
    rw (p.1, p.2) (inl (c.in_err-ready.ensures.refused, refl, refl))

pub feed_open-requires-clause-streams : goal.feed_open-requires-clause-streams
feed_open-requires-clause-streams g c κs within =
    let list = c.args.parts.list in
    let size : length c.in_ok-ready.ready.schedules.items ≡ length list.setups.items = ap (λ (all : List Times). length all) c.in_ok-ready.ensures.schedules ∙ times_size list.setups.items list.seeds.items c.requires.each in
    omega (arith, size, c.requires.size)

pub returns-clause-tries : goal.returns-clause-tries
returns-clause-tries g c =
    let told = g.D.Environment.told in let port = g.D.Port.Post in let wire = g.D.Wire.Link in
    let seen : g.row.D-Port.Denot → PostSeen = λ post. record { name = port.name post; sent = port.sent post; faults = port.faults post } in
    let feed = c.in_ok-ready.ready.feed in
    let later = c.in_ok-ready.ready.later.list in
    let opened = c.open_ready.new in
    let now = c.feed_open.new in
    inr (
      c.in_ok-ready.ensures.right,
      record {
        feed = feed.opened;
        ticking = g.D.Time.Clock.told feed.clock;
        fresh = map seen opened.posts.items;
        opened = told opened.desk;
        opens = c.in_ok-ready.ensures.ready.opens;
        behind = streams_in later;
        behind_is = c.in_ok-ready.ensures.ready.later_is;
        feeds = subst (λ (times : List Times). FeedsReady g.D.Pause.Gate.over times (streams_ready feed.opened later) (streams_in later) feed.opened.opening (option_map status_of c.args.outputs.status.now) (wire.left c.args.link.now) (wire.left now.link) (wire.faults c.args.link.now) (wire.faults now.link) (g.D.Time.Clock.told feed.clock) (told opened.desk) (told now.desk) (map seen opened.posts.items) (map seen now.posts.items) (result_view c.feed_open.result))
            c.in_ok-ready.ensures.schedules c.feed_open.ensures.fed;
      },
    )
