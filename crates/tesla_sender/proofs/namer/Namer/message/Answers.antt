use Rattle.tesla_sender.proofs.Names.{message_named, message_names}
use Rattle.tesla_sender.proofs.namer.Namer.message.Goals as goal

pub returns-clause-answer : goal.returns-clause-answer
returns-clause-answer c = λ log names.
    let a = c.args in
    message_named a.self.now log a.reading a.payload.now c.name_next.result names c.name_next.ensures.returned

pub returns-clause-names : goal.returns-clause-names
returns-clause-names c = λ log names.
    let a = c.args in
    let returned = c.name_next in
    message_names a.self.now returned.new.self log a.reading a.payload.now returned.result names returned.ensures.returned returned.ensures.after returned.ensures.refused
