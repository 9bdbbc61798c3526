use Rattle.std.proofs.Common.{◌≡◌, ◌∙◌, ◌++◌, false, refl}
use Rattle.tesla_feeds.specs.Opening.{some_begun, streams_fed}
use Rattle.tesla_feeds.proofs.Begun.{awaits, begun_is, early_may, early_noting, early_stands, waits_more, waits_none}
use Rattle.tesla_feeds.proofs.Brought.{stands_counts}
use Rattle.tesla_feeds.proofs.hearing.wait_to_begin.Goals as goal

pub loop-init : goal.loop-init
loop-init g c = record { waits = waits_none _ c.args.feeds.now.opening c.args.feeds.now _ _; fixed = refl; noting = c.requires.noting; left = refl }

pub returns-then-has_begun-clause-waits : goal.returns-then-has_begun-clause-waits
returns-then-has_begun-clause-waits g c =
    let feeds = c.args.feeds.now in
    let left = g.Y.LaterSenders.left c.args.instruments.now.later in
    let on = c.loop.invariant.waits in
    awaits (streams_fed feeds.feeders ++ left) feeds.opening feeds c.loop.feeds c.note.new.self c.now-reading.result _ _ _ _ _ on c.now-reading.ensures.ticks c.note.ensures
    (begun_is feeds c.loop.feeds c.note.new.self left on.last _ c.now-reading.result c.has_begun.result on.same c.note.ensures c.requires.stands.later c.has_begun.ensures ∙ c.if-has_begun.true)

pub tell-instruments-requires : goal.tell-instruments-requires
tell-instruments-requires g c =
    let feeds = c.args.feeds.now in
    let left = g.Y.LaterSenders.left c.args.instruments.now.later in
    let streams = streams_fed feeds.feeders ++ left in
    let on = c.loop.invariant.waits in
    let early : some_begun streams feeds.opening c.now-reading.result ≡ false = begun_is feeds c.loop.feeds c.note.new.self left on.last _ c.now-reading.result c.has_begun.result on.same c.note.ensures c.requires.stands.later c.has_begun.ensures ∙ c.if-has_begun.false in
    let counts = early_stands feeds c.loop.feeds c.note.new.self left on.last _ on.same c.note.ensures c.requires.stands in
    record { permitted = early_may _ _ _ _ _ streams feeds.opening c.loop.instruments.notes c.loop.invariant.noting c.now-reading.result c.now-reading.ensures.gave c.note.new.self.counts early counts }

pub returns-then-is_over-clause-waits : goal.returns-then-is_over-clause-waits
returns-then-is_over-clause-waits g c =
    let feeds = c.args.feeds.now in
    let left = g.Y.LaterSenders.left c.args.instruments.now.later in
    let streams = streams_fed feeds.feeders ++ left in
    let on = c.loop.invariant.waits in
    let early : some_begun streams feeds.opening c.now-reading.result ≡ false = begun_is feeds c.loop.feeds c.note.new.self left on.last _ c.now-reading.result c.has_begun.result on.same c.note.ensures c.requires.stands.later c.has_begun.ensures ∙ c.if-has_begun.false in (
      c.is_over.ensures.asked c.if-is_over.true,
      waits_more streams feeds.opening feeds c.loop.feeds c.note.new.self c.now-reading.result _ _ _ _ _ _ on c.now-reading.ensures.ticks c.note.ensures early (stands_counts left feeds _ c.requires.stands) c.tell-instruments.ensures.told,
    )

pub returns-then-is_over-clause-noting : goal.returns-then-is_over-clause-noting
returns-then-is_over-clause-noting g c =
    let feeds = c.args.feeds.now in
    let left = g.Y.LaterSenders.left c.args.instruments.now.later in
    let streams = streams_fed feeds.feeders ++ left in
    let on = c.loop.invariant.waits in
    let early : some_begun streams feeds.opening c.now-reading.result ≡ false = begun_is feeds c.loop.feeds c.note.new.self left on.last _ c.now-reading.result c.has_begun.result on.same c.note.ensures c.requires.stands.later c.has_begun.ensures ∙ c.if-has_begun.false in
    let counts = early_stands feeds c.loop.feeds c.note.new.self left on.last _ on.same c.note.ensures c.requires.stands in
    early_noting _ _ _ _ _ streams feeds.opening c.loop.instruments.notes c.loop.invariant.noting c.now-reading.result c.now-reading.ensures.gave c.note.new.self.counts early counts c.tell-instruments.new.notes c.tell-instruments.ensures.told

pub loop-preserved : goal.loop-preserved
loop-preserved g c =
    let feeds = c.args.feeds.now in
    let left = g.Y.LaterSenders.left c.args.instruments.now.later in
    let streams = streams_fed feeds.feeders ++ left in
    let on = c.loop.invariant.waits in
    let early : some_begun streams feeds.opening c.now-reading.result ≡ false = begun_is feeds c.loop.feeds c.note.new.self left on.last _ c.now-reading.result c.has_begun.result on.same c.note.ensures c.requires.stands.later c.has_begun.ensures ∙ c.if-has_begun.false in
    let counts = early_stands feeds c.loop.feeds c.note.new.self left on.last _ on.same c.note.ensures c.requires.stands in
    record {
      waits = waits_more streams feeds.opening feeds c.loop.feeds c.note.new.self c.now-reading.result _ _ _ _ _ _ on c.now-reading.ensures.ticks c.note.ensures early (stands_counts left feeds _ c.requires.stands) c.tell-instruments.ensures.told;
      fixed = c.tell-instruments.ensures.fixed ∙ c.loop.invariant.fixed;
      noting = early_noting _ _ _ _ _ streams feeds.opening c.loop.instruments.notes c.loop.invariant.noting c.now-reading.result c.now-reading.ensures.gave c.note.new.self.counts early counts c.tell-instruments.new.notes c.tell-instruments.ensures.told;
      left = c.loop.invariant.left;
    }
