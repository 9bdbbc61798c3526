use Rattle.std.proofs.Common.{slice_index_or, subst₂}
use Rattle.tesla_session.specs.Session.{RunsWorker}
use Rattle.tesla_session.proofs.Runs.{runs_each}
use Rattle.tesla_session.proofs.running.run_each.Goals as goal

pub returns : goal.returns
returns g c =
    let xs = c.args.workers.now in let ys = c.for_each_mut.new.s in
    runs_each g.W.Work.seen g.V.Station.yields xs ys c.for_each_mut.auto.s
    (λ i d inside. let e = (c.for_each_mut.ensures i d inside).1 in
    subst₂ (λ x y. RunsWorker g.V.Station.yields (g.W.Work.seen x) (g.W.Work.seen y)) {v = slice_index_or ys i d} e.argument_is e.left e.call)
