use Rattle.tesla_run_relay.specs.play.Arguments.{arguments_of}
use Rattle.tesla_run_relay.proofs.play.Permitted.{next_of_page}
use Rattle.tesla_run_relay.proofs.play.Performed.{performs_opened, performs_roomless, performs_unopened}
use Rattle.tesla_run_relay.proofs.play.run.perform.Goals as goal

pub returns-in_default : goal.returns-in_default
returns-in_default g c = performs_roomless (arguments_of c.args.arguments.now) c.requires.form.0 (g.D.Environment.told c.args.desk.now) c.requires.form.1

pub returns-in-Ok-open_source : goal.returns-in-Ok-open_source
returns-in-Ok-open_source g c =
    performs_opened (arguments_of c.args.arguments.now) c.requires.form.0 c.in-Ok-open_source.source _ _ _ (g.D.Environment.told c.args.desk.now) (g.D.Environment.told c.open_source.new.self) (g.D.Environment.told c.run_opened.new.desk) _ c.requires.form.1 c.in-Ok-open_source.ensures.named c.as_slice.ensures c.in-Ok-open_source.ensures.opened c.in-Ok-open_source.ensures.desk c.run_opened.ensures

pub returns-in-Err : goal.returns-in-Err
returns-in-Err g c =
    performs_unopened (arguments_of c.args.arguments.now) c.requires.form.0 c.in-Err.refusal _ (g.D.Environment.told c.args.desk.now) (g.D.Environment.told c.open_source.new.self) c.requires.form.1 c.from.ensures c.in-Err.ensures.desk

pub run_opened-requires-clause-due : goal.run_opened-requires-clause-due
run_opened-requires-clause-due g c κs within = λ post datagram due.
    c.requires.due post datagram (next_of_page g.D.Time.Clock.gave _ (g.D.In.Source.left c.in-Ok-open_source.source) _ (arguments_of c.args.arguments.now).posts (g.D.Port.Post.name post) (g.D.Port.Post.sent post) datagram c.in-Ok-open_source.ensures.opened c.as_slice.ensures due)
