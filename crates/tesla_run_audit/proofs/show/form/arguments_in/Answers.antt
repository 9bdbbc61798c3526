use Rattle.tesla_run_audit.proofs.show.form.arguments_in.Goals as goal

pub returns-in-None-clause-only : goal.returns-in-None-clause-only
returns-in-None-clause-only c it is = let no = c.words_in.ensures.only (it.trace, tt) is in cc
