use Rattle.std.proofs.Common.{◌≡◌, ◌∙◌, ap}
use Rattle.tesla_run_stress.specs.Load.{payload_of}
use Rattle.tesla_run_stress.proofs.Sent.{message_short, sent_more, text_is}
use Rattle.tesla_run_stress.proofs.messages.Messages.send.Goals as goal

pub returns-clause-sent : goal.returns-clause-sent
returns-clause-sent g c =
    let pays : c.to_be_bytes-payload.result ≡ payload_of c.args.k = c.to_be_bytes-payload.ensures ∙ ap payload_of c.from.ensures in
    sent_more c.args.self.now.count c.args.k c.reading_of.result c.to_be_bytes-payload.result c.args.self.now.sender c.message.new.self c.in-Ok.length c.requires.sent c.reading_of.ensures.value pays c.in-Ok.ensures.after c.in-Ok.ensures.stands

pub returns-clause-text : goal.returns-clause-text
returns-clause-text g c =
    let pays : c.to_be_bytes-payload.result ≡ payload_of c.args.k = c.to_be_bytes-payload.ensures ∙ ap payload_of c.from.ensures in
    text_is c.args.self.now.count c.args.k c.reading_of.result c.to_be_bytes-payload.result c.args.self.now.sender c.in-Ok.length c.args.room.now c.message.new.into c.requires.sent c.reading_of.ensures.value pays c.in-Ok.ensures.answer

pub returns-clause-short : goal.returns-clause-short
returns-clause-short g c =
    let pays : c.to_be_bytes-payload.result ≡ payload_of c.args.k = c.to_be_bytes-payload.ensures ∙ ap payload_of c.from.ensures in
    message_short c.args.self.now.count c.args.k c.reading_of.result c.to_be_bytes-payload.result c.args.self.now.sender c.in-Ok.length c.args.room.now c.message.new.into c.requires.within c.requires.sent c.reading_of.ensures.value pays c.in-Ok.ensures.returned
