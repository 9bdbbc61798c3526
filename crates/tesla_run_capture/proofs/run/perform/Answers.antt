use Rattle.std.proofs.Common.{◌∙◌, ap}
use Rattle.tesla_desk.specs.Live.{Live, clock_told}
use Rattle.tesla_run_capture.specs.Arguments.{arguments_of}
use Rattle.tesla_run_capture.proofs.Pieces.{captured_piece}
use Rattle.tesla_run_capture.proofs.Performed.{performs_opened, performs_unfiled, performs_unlinked}
use Rattle.tesla_run_capture.proofs.run.perform.Goals as goal

pub run_opened-requires-clause-due : goal.run_opened-requires-clause-due
run_opened-requires-clause-due g c κs within =
    let before = g.D.Environment.told c.args.desk.now in
    let clock = ap (λ (l : Live). clock_told l.readings l.made) (c.in-Ok-open_output.ensures.desk.live ∙ c.in-Ok.ensures.desk.live) in
    λ it piece named next.
    c.requires.due it piece (named ∙ c.in-Ok-open_output.ensures.named) (captured_piece g.D.Time.Clock.read_for before.live (arguments_of c.args.arguments.now).link _ _ _ _ c.in-Ok.ensures.opened clock next)

pub returns-in-Ok-open_output : goal.returns-in-Ok-open_output
returns-in-Ok-open_output g c =
    performs_opened (arguments_of c.args.arguments.now) c.in-Ok.link c.in-Ok-open_output.output _ _ _ _ (g.D.Environment.told c.args.desk.now) (g.D.Environment.told c.open_link.new.self) (g.D.Environment.told c.open_output.new.self) _ _ c.requires.files c.in-Ok.ensures.named c.in-Ok-open_output.ensures.named c.in-Ok.ensures.opened c.in-Ok-open_output.ensures.empty c.in-Ok.ensures.desk c.in-Ok-open_output.ensures.desk c.run_opened.ensures

pub returns-in-Err-open_output : goal.returns-in-Err-open_output
returns-in-Err-open_output g c =
    performs_unfiled (arguments_of c.args.arguments.now) c.in-Ok.link c.in-Err-open_output.refusal _ _ _ _ (g.D.Environment.told c.args.desk.now) (g.D.Environment.told c.open_link.new.self) (g.D.Environment.told c.open_output.new.self) _ c.requires.files c.from.ensures c.in-Ok.ensures.named c.in-Ok.ensures.fresh c.in-Ok.ensures.opened c.in-Ok.ensures.desk c.in-Err-open_output.ensures.desk c.close_link.ensures.desk

pub returns-in-Err : goal.returns-in-Err
returns-in-Err g c =
    performs_unlinked (arguments_of c.args.arguments.now) c.in-Err.refusal _ (g.D.Environment.told c.args.desk.now) _ c.requires.files c.from-in-Err.ensures c.in-Err.ensures.desk
