use Rattle.tesla_front.specs.OutcomeView.{outcome_view}
use Rattle.tesla_run_capture.proofs.Performed.{runs_opened}
use Rattle.tesla_run_capture.proofs.run.run_opened.Goals as goal

pub returns : goal.returns
returns g c =
    let record_opened = c.record_opened-outcome.ensures in
    let link = c.record_opened-outcome.new.link in
    let output = c.record_opened-outcome.new.output in
    runs_opened (g.D.Wire.Link.name c.args.link) (g.D.Wire.Link.name link) (g.D.Pieces.Output.name c.args.output) (g.D.Pieces.Output.name output) (g.D.Wire.Link.left c.args.link) (g.D.Wire.Link.left link) (g.D.Pieces.Output.written c.args.output) (g.D.Pieces.Output.written output) (g.D.Wire.Link.faults c.args.link) (g.D.Wire.Link.faults link) (g.D.Pieces.Output.faults output) (g.D.Environment.told c.args.desk.now) (g.D.Environment.told c.record_opened-outcome.new.desk) (g.D.Environment.told c.close_output.new.self) (g.D.Environment.told c.close_link.new.self) c.record_opened-outcome.result (outcome_view c.outcome_of.result) record_opened.names.0 record_opened.names.1 c.requires.link c.outcome_of.ensures record_opened.records record_opened.read record_opened.write record_opened.makes c.close_output.ensures.desk c.close_link.ensures.desk
