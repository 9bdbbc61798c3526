use Rattle.std.proofs.Common.{[], ◌∷◌}
use Rattle.std.proofs.lemmas.Result.{err_from_is_err_and}
use Rattle.tesla_desk.specs.Outside.{OfSource}
use Rattle.tesla_front.proofs.Openings.{opens_then, some_then}
use Rattle.tesla_run_ask.proofs.lag.Runs.{causes_then_fault, first_tried}
use Rattle.tesla_run_ask.proofs.lag.texts.read_texts.Goals as goal

pub returns-in_err-ask-clause-opens : goal.returns-in_err-ask-clause-opens
returns-in_err-ask-clause-opens g c =
    first_tried (OfSource c.args.arguments.now.ask.now) (OfSource c.args.arguments.now.reply.now ∷ OfSource c.args.arguments.now.key.now ∷ []) _ _ c.in_err-ask.ensures.opens

pub returns-in_err-reply-clause-opens : goal.returns-in_err-reply-clause-opens
returns-in_err-reply-clause-opens g c =
    some_then (OfSource c.args.arguments.now.ask.now) (OfSource c.args.arguments.now.reply.now ∷ OfSource c.args.arguments.now.key.now ∷ []) _ _ _ c.in_ok-ask.ensures.opened c.in_err-reply.ensures.opens

pub returns-clause-opened : goal.returns-clause-opened
returns-clause-opened g c =
    opens_then (OfSource c.args.arguments.now.ask.now) (OfSource c.args.arguments.now.reply.now ∷ OfSource c.args.arguments.now.key.now ∷ []) 2 _ _ _ c.in_ok-ask.ensures.opened c.in_ok-reply.ensures.opened

pub returns-clause-opens : goal.returns-clause-opens
returns-clause-opens g c =
    some_then (OfSource c.args.arguments.now.ask.now) (OfSource c.args.arguments.now.reply.now ∷ OfSource c.args.arguments.now.key.now ∷ []) _ _ _ c.in_ok-ask.ensures.opened c.in_ok-reply.ensures.opens

pub returns-in_err-reply-clause-causes : goal.returns-in_err-reply-clause-causes
returns-in_err-reply-clause-causes g c =
    let p = err_from_is_err_and c.from_residual-in_err-reply.result c.from_residual-in_err-reply.ensures.1 in
    rw (p.1, p.2) (causes_then_fault c.in_ok-ask.ask c.in_err-reply.field-0.0 (g.D.Environment.told c.args.desk.now).faults _ _ c.in_ok-ask.ensures.causes c.in_err-reply.ensures.causes)
