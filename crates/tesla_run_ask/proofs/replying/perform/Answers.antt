use Rattle.std.proofs.Common.{Err, ap}
use Rattle.std.proofs.lemmas.Result.{err_from_is_err_and}
use Rattle.tesla_run_ask.specs.Arguments.{reply_arguments}
use Rattle.tesla_run_ask.proofs.Runs.{performs_read, performs_unasked, performs_unkeyed, reads_by}
use Rattle.tesla_run_ask.proofs.replying.perform.Goals as goal

pub returns-in_err-ask-clause-performs : goal.returns-in_err-ask-clause-performs
returns-in_err-ask-clause-performs g c =
    let p = err_from_is_err_and c.from_residual.result c.from_residual.ensures.1 in
    rw (p.1, p.2) (performs_unasked (reply_arguments c.args.arguments.now) c.in_err-ask.field-0.0 (g.D.Environment.told c.args.desk.now) _ c.requires.files c.in_err-ask.ensures.opens c.in_err-ask.ensures.causes (λ e. c.in_err-ask.ensures.kind (ap (λ f. Err f) e)))

pub returns-in_err-key-clause-performs : goal.returns-in_err-key-clause-performs
returns-in_err-key-clause-performs g c =
    let p = err_from_is_err_and c.from_residual-in_err-key.result c.from_residual-in_err-key.ensures.1 in
    let first = reads_by c.in_ok-ask.ask c.args.arguments.now.ask.now 14 c.in_ok-ask.ask.items (g.D.Environment.told c.args.desk.now) _ c.in_ok-ask.ensures.told c.in_ok-ask.ensures.opened c.in_ok-ask.ensures.pages c.in_ok-ask.ensures.causes in
    rw (p.1, p.2) (performs_unkeyed (reply_arguments c.args.arguments.now) c.in_err-key.field-0.0 c.in_ok-ask.ask.items (g.D.Environment.told c.args.desk.now) _ _ c.requires.files first c.in_err-key.ensures.opens c.in_err-key.ensures.causes (λ e. c.in_err-key.ensures.kind (ap (λ f. Err f) e)))

pub returns-clause-performs : goal.returns-clause-performs
returns-clause-performs g c =
    let first = reads_by c.in_ok-ask.ask c.args.arguments.now.ask.now 14 c.in_ok-ask.ask.items (g.D.Environment.told c.args.desk.now) _ c.in_ok-ask.ensures.told c.in_ok-ask.ensures.opened c.in_ok-ask.ensures.pages c.in_ok-ask.ensures.causes in
    let second = reads_by c.in_ok-key.key c.args.arguments.now.key.now 66 c.in_ok-key.key.items _ _ c.in_ok-key.ensures.told c.in_ok-key.ensures.opened c.in_ok-key.ensures.pages c.in_ok-key.ensures.causes in
    performs_read (reply_arguments c.args.arguments.now) c.in_ok-ask.ask.items c.in_ok-key.key.items (g.D.Environment.told c.args.desk.now) _ _ _ c.answer.result c.requires.files first second (rw (← c.as_slice.ensures.value, ← c.as_slice-2.ensures.value) c.answer.ensures.answers) c.answer.ensures.causes
