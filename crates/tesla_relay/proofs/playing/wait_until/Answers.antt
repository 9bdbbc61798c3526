use Rattle.std.proofs.Common.{arith}
use Rattle.tesla_relay.proofs.Pace.{awaits_more, awaits_none, waits_for}
use Rattle.tesla_relay.proofs.playing.wait_until.Goals as goal

pub loop-init : goal.loop-init
loop-init g c = awaits_none c.args.reading _

pub returns-then-reading-now-clause-waits : goal.returns-then-reading-now-clause-waits
returns-then-reading-now-clause-waits g c = waits_for c.args.reading c.now-now.result _ _ _ c.loop.invariant c.now-now.ensures.ticks (omega arith)

pub loop-preserved : goal.loop-preserved
loop-preserved g c = awaits_more c.args.reading c.now-now.result _ _ _ c.loop.invariant c.now-now.ensures.ticks (omega arith)
