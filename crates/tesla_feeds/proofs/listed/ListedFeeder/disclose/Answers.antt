use Rattle.tesla_feeds.proofs.Parts.{discloses_part}
use Rattle.tesla_feeds.proofs.listed.ListedFeeder.disclose.Goals as goal

pub returns-clause-does : goal.returns-clause-does
returns-clause-does g c = λ part feeds.
    discloses_part c.args.self.now c.disclose.new.self part c.args.reading c.disclose.result c.disclose.ensures.makes feeds
