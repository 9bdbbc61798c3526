use Rattle.std.proofs.Common.{◌∙◌, arith}
use Rattle.std.proofs.lemmas.Bool.Decides.{nat_tests}
use Rattle.tesla_feeds.proofs.Lists.{on_past, past_is}
use Rattle.tesla_feeds.proofs.stepping.is_on.Goals as goal

pub returns-else-is_empty : goal.returns-else-is_empty
returns-else-is_empty c = λ part parts feeds stands.
    on_past c.args.behind.now part parts c.args.reading c.is_past.result (λ e. grind (arith, nat_tests, c.is_empty.ensures, c.if-is_empty.false)) stands
    (c.is_past.ensures ∙ past_is c.args.feeder.now part c.args.reading feeds)
