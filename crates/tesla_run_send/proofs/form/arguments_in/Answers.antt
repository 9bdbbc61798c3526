use Rattle.tesla_run_send.proofs.form.arguments_in.Goals as goal

pub returns-in-None-clause-only : goal.returns-in-None-clause-only
returns-in-None-clause-only c it is = let no = c.words_in.ensures.only (it.setup, (it.secret, (it.script, (it.out, tt)))) is.spelled in cc
