use Rattle.tesla_feed.specs.Fed.{fed}
use Rattle.tesla_laws.proofs.feeds.secure.Goals as goal

pub returns : goal.returns
returns c = λ cfg seeds world opening events history joined. c.safe.ensures cfg seeds world (fed (record { setup = cfg.setup; seeds = seeds }) opening events).log history joined
