use Rattle.tesla_relay.proofs.Heard.{seen_serving_at}
use Rattle.tesla_relay.proofs.hearing.hand_on.Goals as goal

pub empty_all-requires-clause-serving : goal.empty_all-requires-clause-serving
empty_all-requires-clause-serving g c κs within = λ i d inside. seen_serving_at g.W.Serve.seen g.W.Serve.basis c.args.here.now i d inside c.requires.serving
