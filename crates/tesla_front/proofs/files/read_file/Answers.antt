use Rattle.std.proofs.Common.{◌∙◌, arith}
use Rattle.tesla_front.proofs.Openings.{source_closed}
use Rattle.tesla_front.proofs.files.read_file.Goals as goal

pub returns-clause-opens : goal.returns-clause-opens
returns-clause-opens g c =
    (1, omega arith, source_closed c.args.name.now _ c.in_ok-source.source (g.D.Environment.told c.args.desk.now) _ _ _ _ (c.read_up_to-read.ensures.name ∙ c.in_ok-source.ensures.named) c.in_ok-source.ensures.desk c.close_source.ensures.desk)
