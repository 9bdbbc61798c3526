use Rattle.tesla_run_send.specs.Sender.{stream_in}
use Rattle.tesla_run_feed.proofs.senders.sender_of.Goals as goal

pub returns-clause-refused : goal.returns-clause-refused
returns-clause-refused g c = c.no_sender.ensures (stream_in c.args.seeded) c.in-Err.ensures.refused
