use Rattle.std.proofs.Common.{arith, refl}
use Rattle.tesla_feeds.proofs.Brought.{brings_none}
use Rattle.tesla_feeds.proofs.bringing.bring_needed.Goals as goal

pub loop-feeds-init : goal.loop-feeds-init
loop-feeds-init g c = record {
  brings = brings_none _ c.args.feeds.now (g.Y.LaterSenders.left c.args.later.now) _ refl c.requires.later c.requires.room;
  no_more = omega arith;
}
