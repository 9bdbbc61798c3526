use Rattle.tesla_feeds.proofs.Ended.{lasting_empty, lasting_here, lasting_passed}
use Rattle.tesla_feeds.proofs.opening.+lasting_setups.Goals as goal

pub returns-in_default : goal.returns-in_default
returns-in_default t c = λ streams are. lasting_empty c.args.setups.now streams c.args.opening c.in_default.ensures.cases are

pub returns-then-has_setup_ended : goal.returns-then-has_setup_ended
returns-then-has_setup_ended t c = λ streams are.
    lasting_passed c.args.setups.now c.in-Some.setup.now c.in-Some.behind.now c.args.opening c.has_setup_ended.result _ c.in-Some.ensures.cases.0 c.has_setup_ended.ensures c.if-has_setup_ended.true c.lasting_setups.ensures streams are

pub returns : goal.returns
returns t c = λ streams are.
    lasting_here c.args.setups.now c.in-Some.setup.now c.in-Some.behind.now c.args.opening c.has_setup_ended.result c.in-Some.ensures.cases.0 c.has_setup_ended.ensures c.if-has_setup_ended.false streams are
