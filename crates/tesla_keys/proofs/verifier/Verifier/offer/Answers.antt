use Rattle.std.proofs.Common.{◌≡◌, ◌-◌, ap, ◌∙◌}
use Rattle.tesla_prf.specs.Keys.{walk}
use Rattle.tesla_keys.specs.Offers.{answer_to}
use Rattle.tesla_keys.specs.Tip.{Tip}
use Rattle.tesla_keys.proofs.Offers.{old_where, good_where, bad_where}
use Rattle.tesla_keys.proofs.verifier.Verifier.offer.Goals as goal

given : goal.returns-clause-value
given g c =
    let gap : c.saturating_sub-gap.result ≡ c.args.index - c.args.self.now.index = c.saturating_sub-gap.ensures ∙ ap (λ (t : Tip). c.args.index - t.index) c.self.view_is in
    c.answer.ensures ∙ ap (answer_to c.args.self.now.key c.saturating_sub-gap.result) c.walk_back.ensures.value
    ∙ ap (λ n. answer_to c.args.self.now.key n (walk c.args.key.now n)) gap

pub returns-clause-value : goal.returns-clause-value
returns-clause-value g c = given g c

pub returns-clause-old : goal.returns-clause-old
returns-clause-old g c = old_where c.args.self.now c.args.index c.args.key.now c.answer.result (given g c)

pub returns-clause-good : goal.returns-clause-good
returns-clause-good g c = good_where c.args.self.now c.args.index c.args.key.now c.answer.result (given g c)

pub returns-clause-bad : goal.returns-clause-bad
returns-clause-bad g c = bad_where c.args.self.now c.args.index c.args.key.now c.answer.result (given g c)
