use Rattle.std.proofs.Common.{◌∙◌, arith}
use Rattle.tesla_front.proofs.Openings.{sink_closed, sink_tried}
use Rattle.tesla_front.proofs.files.write_file.Goals as goal

pub returns-then-whole-clause-opens : goal.returns-then-whole-clause-opens
returns-then-whole-clause-opens g c =
    (1, omega arith, sink_closed c.args.name.now _ c.in-Ok.out (g.D.Environment.told c.args.desk.now) _ _ _ _ (c.write_all-whole.ensures.name ∙ c.in-Ok.ensures.named) c.in-Ok.ensures.desk c.close_sink.ensures.desk)

pub returns-else-whole-clause-opens : goal.returns-else-whole-clause-opens
returns-else-whole-clause-opens g c =
    (1, omega arith, sink_closed c.args.name.now _ c.in-Ok.out (g.D.Environment.told c.args.desk.now) _ _ _ _ (c.write_all-whole.ensures.name ∙ c.in-Ok.ensures.named) c.in-Ok.ensures.desk c.close_sink.ensures.desk)

pub returns-in-Err-clause-opens : goal.returns-in-Err-clause-opens
returns-in-Err-clause-opens g c = sink_tried c.args.name.now _ _ _ c.in-Err.ensures.desk
