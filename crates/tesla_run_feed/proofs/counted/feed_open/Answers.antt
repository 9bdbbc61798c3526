use Rattle.std.proofs.Common.{◌∙◌, inr, ℕ, nat_lt, false, List, None, ap, map, refl}
use Rattle.tesla_feeds.specs.Notes.{Note}
use Rattle.tesla_front.specs.OutcomeView.{stop_view}
use Rattle.tesla_relay.specs.Posts.{PostSeen}
use Rattle.tesla_run_feed.specs.Lines.{outcome_with}
use Rattle.tesla_run_feed.specs.Steps.{WritesStatus, streams_ready}
use Rattle.tesla_run_feed.proofs.Noted.{feeds_as}
use Rattle.tesla_run_feed.proofs.counted.feed_open.Goals as goal

pub returns-in-None-clause-fed : goal.returns-in-None-clause-fed
returns-in-None-clause-fed g c =
    let port = g.D.Port.Post in let told = g.D.Environment.told in
    let seen : g.row.D-Port.Denot → PostSeen = λ post. record { name = port.name post; sent = port.sent post; faults = port.faults post } in
    let feed = c.args.ready.feed.opened in
    let streams = streams_ready feed c.args.ready.later.list in
    let end = c.feed_beside-fed.result.end in
    let was : List Note → Type 0 = λ all. Unit {0} in
    let is : List Note → Type 0 = λ all. WritesStatus None c.args.ready.schedules.items feed.opening end.counts (told c.args.desk.now) (told c.args.desk.now) false all in
    rw c.in-None.is (inr (record {
      end = end;
      status_failed = false;
      fed = feeds_as g.D.Pause.Gate.over streams feed.opening end (g.D.Wire.Link.left c.args.link.now) (g.D.Wire.Link.left c.feed_beside-fed.new.link) (g.D.Time.Clock.told c.args.ready.feed.clock) (map seen c.args.posts.now.items) (map seen c.feed_beside-fed.new.posts.items) was is (λ all told_all. (refl, refl)) c.feed_beside-fed.ensures.feeds.fed;
      read = c.feed_beside-fed.ensures.cause;
      lack = stop_view c.feed_beside-fed.result.lack;
      lacks = c.feed_beside-fed.ensures.lacks;
      outcome_is = c.lines_after-in-None.ensures ∙ ap (λ (n : ℕ). outcome_with (nat_lt 1 n) end false (stop_view c.feed_beside-fed.result.lack)) (c.len-several.ensures ∙ c.args.ready.schedules.ok.0);
    }))
