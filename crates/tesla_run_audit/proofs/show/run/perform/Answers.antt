use Rattle.std.proofs.Common.{◌∙◌}
use Rattle.tesla_run_audit.specs.show.Arguments.{arguments_of}
use Rattle.tesla_run_audit.proofs.show.Performed.{performs_opened, performs_unopened}
use Rattle.tesla_run_audit.proofs.show.run.perform.Goals as goal

pub returns-in-Ok-clause-performs : goal.returns-in-Ok-clause-performs
returns-in-Ok-clause-performs g c =
    performs_opened (arguments_of c.args.arguments.now) c.in-Ok.source _ _ _ _ _ _ _ _ _ (g.D.Environment.told c.args.desk.now) (g.D.Environment.told c.open_source.new.self) _ c.requires.files (c.show_entries-printed.ensures.input ∙ c.in-Ok.ensures.named) c.in-Ok.ensures.fresh
    c.in-Ok.ensures.opened c.in-Ok.ensures.desk c.show_entries-printed.ensures.prints c.close_source.ensures.desk

pub returns-in-Err-clause-performs : goal.returns-in-Err-clause-performs
returns-in-Err-clause-performs g c =
    performs_unopened _ (arguments_of c.args.arguments.now) c.in-Err.refusal _ _ _ (g.D.Environment.told c.args.desk.now) _ c.requires.files c.requires.sound c.from.ensures c.in-Err.ensures.desk
