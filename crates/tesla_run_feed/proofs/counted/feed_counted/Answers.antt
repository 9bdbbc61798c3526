use Rattle.std.proofs.Common.{◌≡◌, ◌∙◌, ℕ, ◌*◌, List, ◌++◌, map, sym, ap, subst}
use Rattle.tesla_desk.specs.Outside.{ClosesSink, Told}
use Rattle.tesla_feeds.specs.Notes.{Note}
use Rattle.tesla_feeds.specs.Later.{IsOpenFeed}
use Rattle.tesla_feeds.specs.Opening.{streams_fed}
use Rattle.tesla_relay.specs.Posts.{PostSeen}
use Rattle.tesla_run_feed.specs.Status.{HasAllLines, HasLines, end_line, time_line}
use Rattle.tesla_run_feed.specs.Steps.{WritesLines}
use Rattle.tesla_run_feed.specs.Arguments.{status_of}
use Rattle.tesla_run_feed.proofs.Noted.{counted_last, counted_next, feeds_as, has_all, name_is, sink_opened, told_by, whole_as}
use Rattle.tesla_run_feed.proofs.counted.feed_counted.Goals as goal
use Rattle.tesla_sender.specs.Made.{Stream}
use Rattle.tesla_status.specs.declared.status.Status.{Status}

pub feed_beside-fed-requires-clause-open : goal.feed_beside-fed-requires-clause-open
feed_beside-fed-requires-clause-open g c = λ lifetimes within. subst (λ (ss : List Stream). IsOpenFeed c.args.ready.feed.opened ss) (sym c.requires.later) c.requires.ready.is_open

pub feed_beside-fed-requires-clause-noting : goal.feed_beside-fed-requires-clause-noting
feed_beside-fed-requires-clause-noting g c = λ lifetimes within it before note told noted still due system.
    let out = g.D.Pieces.Output in let clock = g.D.Time.Clock in
    let feed = c.args.ready.feed.opened in
    let notes = it.notes in
    let sink = notes.status.sink in
    let every = c.args.status.now.every * 1000000 in
    let name = c.args.status.now.output.now in
    let by = told.0 ∙ c.requires.by in
    c.requires.counted sink (time_line notes.schedules.items system note)
    (name_is clock.gave clock.read_for (streams_fed feed.feeders ++ g.X.Later.streams) c.args.ready.schedules.items feed.opening every name (out.name sink) notes.schedules.items notes.opening notes.due.every notes.due.since notes.last by c.requires.opening (out.written sink) (out.faults sink) notes.status.failed)
    (counted_next clock.gave clock.read_for (streams_fed feed.feeders ++ g.X.Later.streams) c.args.ready.schedules.items feed.opening every name (out.name sink) notes.schedules.items notes.opening notes.due.every notes.due.since notes.last by c.requires.opening (out.written sink) (out.faults sink) notes.status.failed before told.1 note noted still due system)

pub end-requires : goal.end-requires
end-requires g c = record {
  permitted = λ still system.
      let out = g.D.Pieces.Output in let clock = g.D.Time.Clock in
      let feed = c.args.ready.feed.opened in
      let end = c.feed_beside-fed.result.end in
      let notes = c.feed_beside-fed.result.notes.notes in
      let sink = notes.status.sink in
      let every = c.args.status.now.every * 1000000 in
      let name = c.args.status.now.output.now in
      let given = c.feed_beside-fed.ensures.feeds.given in
      let by = given.noted.0 ∙ c.requires.by in
      c.requires.counted sink (end_line notes.schedules.items system (record { reading = notes.last; counts = end.counts }))
      (name_is clock.gave clock.read_for (streams_fed feed.feeders ++ g.X.Later.streams) c.args.ready.schedules.items feed.opening every name (out.name sink) notes.schedules.items notes.opening notes.due.every notes.due.since notes.last by c.requires.opening (out.written sink) (out.faults sink) notes.status.failed)
      (counted_last clock.gave clock.read_for (streams_fed feed.feeders ++ g.X.Later.streams) c.args.ready.schedules.items feed.opening every name (out.name sink) notes.schedules.items notes.opening notes.due.every notes.due.since notes.last by c.requires.opening (out.written sink) (out.faults sink) notes.status.failed end.counts
      (whole_as clock.gave clock.read_for (streams_fed feed.feeders ++ g.X.Later.streams) end.counts
      (λ all. (told_by notes.schedules.items notes.opening notes.due.every (out.name sink) ≡ g.T.ToldBy.telling) × HasLines notes.schedules.items notes.due.every notes.opening notes.due.since notes.last all (out.written sink) (out.faults sink) notes.status.failed)
      (λ all. HasLines notes.schedules.items notes.due.every notes.opening notes.due.since notes.last all (out.written sink) (out.faults sink) notes.status.failed)
      (λ all told. told.1) given) still system);
}

pub returns-clause-fed : goal.returns-clause-fed
returns-clause-fed g c =
    let out = g.D.Pieces.Output in let clock = g.D.Time.Clock in let port = g.D.Port.Post in
    let told = g.D.Environment.told in
    let seen : g.row.D-Port.Denot → PostSeen = λ post. record { name = port.name post; sent = port.sent post; faults = port.faults post } in
    let feed = c.args.ready.feed.opened in
    let end = c.feed_beside-fed.result.end in
    let notes = c.feed_beside-fed.result.notes.notes in
    let sink = notes.status.sink in
    let every = c.args.status.now.every * 1000000 in
    let name = c.args.status.now.output.now in
    let status = c.into_status-sink.result in
    let opened = told c.open_output.new.self in
    let closed = told c.close_output.new.self in
    let written = out.written status.sink in
    let faults = out.faults status.sink in
    let was : List Note → Type 0 = λ all. (told_by notes.schedules.items notes.opening notes.due.every (out.name sink) ≡ g.T.ToldBy.telling) × HasLines notes.schedules.items notes.due.every notes.opening notes.due.since notes.last all (out.written sink) (out.faults sink) notes.status.failed in
    let is : List Note → Type 0 = λ all. WritesLines (status_of c.args.status.now) c.args.ready.schedules.items feed.opening end.counts (told c.args.desk.now) closed status.failed all in
    feeds_as g.D.Pause.Gate.over (streams_fed feed.feeders ++ g.X.Later.streams) feed.opening end (g.D.Wire.Link.left c.args.link.now) (g.D.Wire.Link.left c.feed_beside-fed.new.link) (clock.told c.args.ready.feed.clock) (map seen c.args.posts.now.items) (map seen c.feed_beside-fed.new.posts.items) was is
    (λ all told_all.
    let by = told_all.0 ∙ c.requires.by in
    let named : out.name status.sink ≡ name = ap (λ (s : Status g.row.D-Pieces.Denot). out.name s.sink) c.into_status-sink.ensures ∙ c.end.ensures.name
    ∙ name_is clock.gave clock.read_for (streams_fed feed.feeders ++ g.X.Later.streams) c.args.ready.schedules.items feed.opening every name (out.name sink) notes.schedules.items notes.opening notes.due.every notes.due.since notes.last by c.requires.opening (out.written sink) (out.faults sink) notes.status.failed in
    let lines = has_all clock.gave clock.read_for (streams_fed feed.feeders ++ g.X.Later.streams) c.args.ready.schedules.items feed.opening every name (out.name sink) notes.schedules.items notes.opening notes.due.every notes.due.since notes.last by c.requires.opening (out.written sink) (out.faults sink) notes.status.failed all told_all.1 end.counts
    (out.written c.end.new.self.status.sink) (out.faults c.end.new.self.status.sink) c.end.new.self.status.failed (c.end.ensures.lines all told_all.1) in
    record {
      opened = opened;
      opens = sink_opened name c.in-Ok.sink (told c.args.desk.now) opened c.in-Ok.ensures.desk;
      written = written;
      faults = faults;
      lines = subst (λ (s : Status g.row.D-Pieces.Denot). HasAllLines c.args.ready.schedules.items every feed.opening all end.counts (out.written s.sink) (out.faults s.sink) s.failed) (sym c.into_status-sink.ensures) lines;
      closes = subst (λ (t : Told). ClosesSink name written faults t closed) c.incidents.ensures.desk
          (subst (λ (n : List ℕ). ClosesSink n written faults (told c.incidents.new.self) closed) named c.close_output.ensures.desk);
    }) c.feed_beside-fed.ensures.feeds.fed
