use Rattle.std.proofs.Common.{[], ◌∷◌}
use Rattle.std.proofs.lemmas.Result.{err_from_is_err_and}
use Rattle.tesla_desk.specs.Outside.{OfSource}
use Rattle.tesla_front.proofs.Openings.{opens_then, some_then}
use Rattle.tesla_run_ask.proofs.lag.Runs.{causes_then_fault, first_tried}
use Rattle.tesla_run_ask.proofs.lag.texts.read_two.Goals as goal

pub returns-in_err-reply-clause-opens : goal.returns-in_err-reply-clause-opens
returns-in_err-reply-clause-opens g c = first_tried (OfSource c.args.reply.now) (OfSource c.args.key.now ∷ []) _ _ c.in_err-reply.ensures.opens

pub returns-in_err-key-clause-opens : goal.returns-in_err-key-clause-opens
returns-in_err-key-clause-opens g c = some_then (OfSource c.args.reply.now) (OfSource c.args.key.now ∷ []) _ _ _ c.in_ok-reply.ensures.opened c.in_err-key.ensures.opens

pub returns-clause-opened : goal.returns-clause-opened
returns-clause-opened g c = opens_then (OfSource c.args.reply.now) (OfSource c.args.key.now ∷ []) 1 _ _ _ c.in_ok-reply.ensures.opened c.in_ok-key.ensures.opened

pub returns-clause-opens : goal.returns-clause-opens
returns-clause-opens g c = some_then (OfSource c.args.reply.now) (OfSource c.args.key.now ∷ []) _ _ _ c.in_ok-reply.ensures.opened c.in_ok-key.ensures.opens

pub returns-in_err-key-clause-causes : goal.returns-in_err-key-clause-causes
returns-in_err-key-clause-causes g c =
    let p = err_from_is_err_and c.from_residual-in_err-key.result c.from_residual-in_err-key.ensures.1 in
    rw (p.1, p.2) (causes_then_fault c.in_ok-reply.reply c.in_err-key.field-0.0 (g.D.Environment.told c.args.desk.now).faults _ _ c.in_ok-reply.ensures.causes c.in_err-key.ensures.causes)
