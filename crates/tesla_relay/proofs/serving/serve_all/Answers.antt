use Rattle.std.proofs.Common.{slice_index_or, subst₂}
use Rattle.tesla_relay.specs.Lists.{ServesAll}
use Rattle.tesla_relay.proofs.Heard.{each_seen}
use Rattle.tesla_relay.proofs.serving.serve_all.Goals as goal

pub returns : goal.returns
returns g c =
    let xs = c.args.servers.now in let ys = c.for_each_mut.new.s in
    each_seen g.W.Serve.seen ServesAll xs ys c.for_each_mut.auto.s
    (λ i d inside. let e = (c.for_each_mut.ensures i d inside).1 in
    subst₂ (λ x y. ServesAll (g.W.Serve.seen x) (g.W.Serve.seen y)) {v = slice_index_or ys i d} e.argument_is e.left e.call)
