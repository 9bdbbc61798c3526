use Rattle.std.specs.Prelude.{Ok}
use Rattle.tesla_sender.proofs.Names.{disclosure_names}
use Rattle.tesla_sender.proofs.namer.Namer.disclose.Goals as goal

pub returns-in-Ok-clause-names : goal.returns-in-Ok-clause-names
returns-in-Ok-clause-names c = λ log names.
    let a = c.args in
    let returned = c.disclose_next in
    disclosure_names a.self.now returned.new.self log a.reading (Ok c.in-Ok.field-0) names c.in-Ok.ensures.returned c.in-Ok.ensures.after c.in-Ok.ensures.refused
