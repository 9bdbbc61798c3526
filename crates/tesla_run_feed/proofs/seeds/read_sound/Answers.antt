use Rattle.std.proofs.lemmas.Result.{err_from_is_err_and}
use Rattle.tesla_front.specs.OutcomeView.{stop_view}
use Rattle.tesla_run_feed.proofs.Performed.{reads_none, reads_weak}
use Rattle.tesla_run_feed.proofs.seeds.read_sound.Goals as goal

pub returns-in_err-seeded-clause-refused : goal.returns-in_err-seeded-clause-refused
returns-in_err-seeded-clause-refused g c =
    let told = g.D.Environment.told in
    let p = err_from_is_err_and c.from_residual.result c.from_residual.ensures.1 in
    rw (p.1, p.2) (reads_none c.args.setup.now c.args.secret.now (stop_view c.in_err-seeded.field-0.0) (told c.args.desk.now) _ c.in_err-seeded.ensures.refused)

pub returns-in-Err-clause-refused : goal.returns-in-Err-clause-refused
returns-in-Err-clause-refused g c =
    let told = g.D.Environment.told in
    reads_weak c.args.setup.now c.args.secret.now _ (stop_view c.in-Err.stop) (told c.args.desk.now) _ c.in_ok-seeded.ensures.read c.in-Err.ensures.refused
