use Rattle.tesla_sender.proofs.Opened.{sender_opened, stream_back}
use Rattle.tesla_sender.proofs.sender.Sender.open.Goals as goal

pub invariant_of-result : goal.invariant_of-result
invariant_of-result g c = sender_opened c.args.setup c.args.seeds.now c.in-Ok.chains.items c.requires c.in-Ok.ensures.opened

pub returns-in-Ok-clause-stream : goal.returns-in-Ok-clause-stream
returns-in-Ok-clause-stream g c = stream_back c.args.setup c.args.seeds.now c.in-Ok.chains.items c.requires c.in-Ok.ensures.opened
