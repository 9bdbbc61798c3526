use Rattle.tesla_receiver.specs.History.{arrivals_in}
use Rattle.tesla_receiver.proofs.Tips.{tip_index, tips_legal, good_offered, offers_good}
use Rattle.tesla_receiver.proofs.laws.offer.Goals as goal

pub returns-clause-good : goal.returns-clause-good
returns-clause-good c = good_offered

pub returns-clause-newest : goal.returns-clause-newest
returns-clause-newest c = λ cfg h chain. tip_index cfg (arrivals_in h) chain

pub returns-clause-answer : goal.returns-clause-answer
returns-clause-answer c = λ cfg h row l. offers_good cfg (arrivals_in h) row (tips_legal cfg h l)
