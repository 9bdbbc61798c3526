use Rattle.tesla_convert.proofs.Opened.{no_input, no_output}
use Rattle.tesla_convert.proofs.files.open_files.Goals as goal

pub returns-in-Err-clause-refused : goal.returns-in-Err-clause-refused
returns-in-Err-clause-refused g c = no_input _ c.args.input.now c.args.output.now c.in-Err.refusal _ (g.D.Environment.told c.args.desk.now) _ c.from.ensures c.in-Err.ensures.desk

pub returns-in-Err-open_sink-clause-refused : goal.returns-in-Err-open_sink-clause-refused
returns-in-Err-open_sink-clause-refused g c =
    no_output _ c.args.input.now c.args.output.now _ c.in-Ok.source _ _ c.in-Err-open_sink.refusal _ (g.D.Environment.told c.args.desk.now) (g.D.Environment.told c.open_source.new.self) (g.D.Environment.told c.open_sink.new.self) _ c.from-in-Err-open_sink.ensures c.in-Ok.ensures.named c.in-Ok.ensures.fresh c.in-Ok.ensures.opened c.in-Ok.ensures.desk c.in-Err-open_sink.ensures.desk c.close_source.ensures.desk
