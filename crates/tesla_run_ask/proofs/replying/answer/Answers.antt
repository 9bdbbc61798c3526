use Rattle.std.proofs.Common.{inl, refl}
use Rattle.std.proofs.lemmas.Result.{err_from_is_err_and}
use Rattle.tesla_run_ask.proofs.replying.answer.Goals as goal

pub returns-in_err-t_r-clause-answers : goal.returns-in_err-t_r-clause-answers
returns-in_err-t_r-clause-answers g c =
    let p = err_from_is_err_and c.from_residual.result c.from_residual.ensures.1 in
    rw (p.1, p.2) (inl (c.in_err-t_r.ensures, refl))
