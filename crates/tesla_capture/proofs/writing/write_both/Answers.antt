use Rattle.tesla_desk.proofs.Told.{prefix_after}
use Rattle.tesla_capture.proofs.writing.write_both.Goals as goal

pub returns-clause-prefix : goal.returns-clause-prefix
returns-clause-prefix g c =
    prefix_after (g.S.Sink.written c.args.sink.now) (g.S.Sink.written c.write_all.new.sink) (g.S.Sink.written c.write_all-2.new.sink) c.args.header.now c.args.back.now
    (c.write_all.ensures.all c.if-not-write_all.false) c.write_all-2.ensures.prefix
