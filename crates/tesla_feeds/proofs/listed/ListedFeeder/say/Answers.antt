use Rattle.tesla_feeds.proofs.Parts.{says_part}
use Rattle.tesla_feeds.proofs.listed.ListedFeeder.say.Goals as goal

pub returns-clause-does : goal.returns-clause-does
returns-clause-does g c = λ part feeds.
    says_part c.args.self.now c.say.new.self part c.args.reading c.args.payload.now c.say.result c.say.ensures.says feeds
