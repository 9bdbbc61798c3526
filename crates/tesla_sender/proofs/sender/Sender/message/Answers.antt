use Rattle.tesla_sender.specs.Made.{made_message}
use Rattle.tesla_sender.proofs.Logs.{message_answered, message_stands, spells_answered}
use Rattle.tesla_sender.proofs.sender.Sender.message.Goals as goal

pub returns-clause-answer : goal.returns-clause-answer
returns-clause-answer g c = λ log stands.
    let a = c.args in
    message_answered a.self.now log a.reading a.payload.now c.answer_message.result a.into.now c.answer_message.new.into stands c.answer_message.ensures.returned

pub returns-clause-spelled : goal.returns-clause-spelled
returns-clause-spelled g c = λ log stands.
    let a = c.args in
    spells_answered c.answer_message.result (made_message a.self.now.stream log a.reading a.payload.now) a.into.now c.answer_message.new.into (returns-clause-answer g c log stands)

pub returns-clause-stands : goal.returns-clause-stands
returns-clause-stands g c = λ log stands.
    let a = c.args in
    let made = c.answer_message in
    message_stands a.self.now made.new.self log a.reading a.payload.now made.result a.into.now made.new.into a.steps.now made.new.steps stands made.ensures.returned made.ensures.after made.ensures.refused
