use Rattle.std.proofs.Common.{◌∙◌, sym}
use Rattle.tesla_feed.proofs.Going.{misses_more, misses_none, opens_at}
use Rattle.tesla_feed.proofs.opening.first_reading.Goals as goal

pub loop-init : goal.loop-init
loop-init g c = misses_none (g.C.Clock.told c.args.clock.now)

pub returns-then-not-is_unread-clause-opens : goal.returns-then-not-is_unread-clause-opens
returns-then-not-is_unread-clause-opens g c = opens_at c.now-reading.result _ _ _ c.loop.invariant c.now-reading.ensures.ticks (sym c.is_unread.ensures ∙ c.if-not-is_unread.true)

pub loop-preserved : goal.loop-preserved
loop-preserved g c = misses_more c.now-reading.result _ _ _ c.loop.invariant c.now-reading.ensures.ticks (sym c.is_unread.ensures ∙ c.if-not-is_unread.false)
