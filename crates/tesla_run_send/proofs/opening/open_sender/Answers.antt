use Rattle.std.proofs.lemmas.Result.{MatchResult-weaker, err_from_is_err_and}
use Rattle.tesla_front.specs.OutcomeView.{stop_view}
use Rattle.tesla_run_send.specs.Sender.{stream_in}
use Rattle.tesla_run_send.proofs.Sender.{opened, unopened, unread}
use Rattle.tesla_run_send.proofs.opening.open_sender.Goals as goal

pub returns-in_err-seeded-clause-refused : goal.returns-in_err-seeded-clause-refused
returns-in_err-seeded-clause-refused g c =
    let told = g.D.Environment.told in
    let p = err_from_is_err_and c.from_residual.result c.from_residual.ensures.1 in
    rw (p.1, p.2) (unread c.args.setup.now c.args.secret.now (stop_view c.in_err-seeded.field-0.0) (told c.args.desk.now) _ c.in_err-seeded.ensures.refused)

pub returns-clause-opened : goal.returns-clause-opened
returns-clause-opened g c =
    let told = g.D.Environment.told in
    MatchResult-weaker c.sender_of.result c.sender_of.ensures.opened
    (λ sender is. opened c.args.setup.now c.args.secret.now (stream_in c.in_ok-seeded.seeded) sender.stream (told c.args.desk.now) _ c.in_ok-seeded.ensures.read is.0 is.1) (λ stop all. all)

pub returns-clause-refused : goal.returns-clause-refused
returns-clause-refused g c =
    let told = g.D.Environment.told in
    MatchResult-weaker c.sender_of.result c.sender_of.ensures.refused (λ sender all. all)
    (λ stop why. unopened c.args.setup.now c.args.secret.now (stream_in c.in_ok-seeded.seeded) (stop_view stop) (told c.args.desk.now) _ c.in_ok-seeded.ensures.read why)
