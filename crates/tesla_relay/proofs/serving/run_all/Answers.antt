use Rattle.std.proofs.Common.{map}
use Rattle.tesla_relay.proofs.Heard.{are_serving, seen_serving_at, serve_all_then}
use Rattle.tesla_relay.proofs.serving.run_all.Goals as goal

pub run_apart-requires-clause-serving : goal.run_apart-requires-clause-serving
run_apart-requires-clause-serving g c κs within = λ i d inside. seen_serving_at g.W.Serve.seen g.W.Serve.basis c.args.servers.now i d inside c.requires.serving

pub serve_all-requires-clause-serving : goal.serve_all-requires-clause-serving
serve_all-requires-clause-serving g c κs within = λ i d inside. let seen = g.W.Serve.seen in
    seen_serving_at seen g.W.Serve.basis c.hear_all-end.new.here i d inside (are_serving g.W.Serve.basis (map seen c.args.servers.now) (map seen c.hear_all-end.new.here) c.requires.serving c.hear_all-end.ensures.here)

pub returns-else-can_make-clause-serves : goal.returns-else-can_make-clause-serves
returns-else-can_make-clause-serves g c = let seen = g.W.Serve.seen in serve_all_then (map seen c.args.servers.now) (map seen c.hear_all-end.new.here) (map seen c.serve_all.new.servers) c.hear_all-end.ensures.here c.serve_all.ensures
