use Rattle.tesla_run_stress.proofs.Sent.{disclosure_is}
use Rattle.tesla_run_stress.proofs.messages.Messages.disclose.Goals as goal

pub returns-clause-text : goal.returns-clause-text
returns-clause-text g c =
    disclosure_is c.args.self.now.count c.args.reading c.args.self.now.sender c.in-Ok.length c.args.room.now c.disclose.new.into c.requires.sent c.requires.reading c.in-Ok.ensures.answer
