use Rattle.std.proofs.Common.{sym, ◌∙◌}
use Rattle.tesla_run_receive.proofs.Others.{others_first}
use Rattle.tesla_run_receive.proofs.words.+are_others.Goals as goal

pub returns-else-eq-clause-yes : goal.returns-else-eq-clause-yes
returns-else-eq-clause-yes t c test =
    others_first c.args.name.now c.args.others.now _ c.in-len1-up.len_at_least (sym c.eq.ensures ∙ c.if-eq.false) (c.are_others.ensures.yes test)
