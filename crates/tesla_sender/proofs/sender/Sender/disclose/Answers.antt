use Rattle.tesla_sender.specs.Made.{made_disclosure}
use Rattle.tesla_sender.proofs.Logs.{disclosure_answered, disclosure_stands, spells_answered}
use Rattle.tesla_sender.proofs.sender.Sender.disclose.Goals as goal

pub returns-clause-answer : goal.returns-clause-answer
returns-clause-answer g c = λ log stands.
    let a = c.args in
    disclosure_answered a.self.now log a.reading c.answer_disclosure.result a.into.now c.answer_disclosure.new.into stands c.answer_disclosure.ensures.returned

pub returns-clause-spelled : goal.returns-clause-spelled
returns-clause-spelled g c = λ log stands.
    let a = c.args in
    spells_answered c.answer_disclosure.result (made_disclosure a.self.now.stream log a.reading) a.into.now c.answer_disclosure.new.into (returns-clause-answer g c log stands)

pub returns-clause-stands : goal.returns-clause-stands
returns-clause-stands g c = λ log stands.
    let a = c.args in
    let made = c.answer_disclosure in
    disclosure_stands a.self.now made.new.self log a.reading made.result a.into.now made.new.into a.steps.now made.new.steps stands made.ensures.returned made.ensures.after made.ensures.refused
