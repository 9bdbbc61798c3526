use Rattle.tesla_feed.proofs.Kept.{next_stands}
use Rattle.tesla_feed.proofs.feeder.Feeder.make_next.Goals as goal

pub returns : goal.returns
returns g c = λ made stands. next_stands c.args.self.now.sender.stream c.args.self.now.first c.args.self.now c.make_next.new.self made c.make_next.ensures.same stands
