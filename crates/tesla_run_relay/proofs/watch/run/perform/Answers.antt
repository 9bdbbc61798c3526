use Rattle.std.proofs.Common.{subst}
use Rattle.tesla_desk.specs.Outside.{Told}
use Rattle.tesla_front.specs.Command.{Performs}
use Rattle.tesla_front.specs.OutcomeView.{Failed, outcome_view}
use Rattle.tesla_front.specs.declared.fault.Fault.TheVariants as faults
use Rattle.tesla_run_relay.specs.watch.Arguments.{arguments_of}
use Rattle.tesla_run_relay.specs.watch.Watch.{watch_relay}
use Rattle.tesla_run_relay.proofs.watch.Performed.{performs_linked, performs_unlinked, performs_unroomed}
use Rattle.tesla_run_relay.proofs.watch.run.perform.Goals as goal

pub returns-in_default : goal.returns-in_default
returns-in_default g c =
    let arguments = arguments_of c.args.arguments.now in
    let roomed = g.D.Environment.told c.room_for.new.desk in
    subst (λ (t : Told). Performs (watch_relay t.live roomed.live) arguments t roomed (Failed faults.NoMemory)) c.room_for.ensures.desk
    (performs_unroomed arguments c.requires.form.0 roomed c.requires.form.1)

pub returns-in-Ok-open_link : goal.returns-in-Ok-open_link
returns-in-Ok-open_link g c =
    let arguments = arguments_of c.args.arguments.now in
    let told = g.D.Environment.told in let wire = g.D.Wire.Link in
    let roomed = told c.room_for.new.desk in
    let new = told c.run_linked.new.desk in
    let link = c.in-Ok-open_link.link in
    subst (λ (t : Told). Performs (watch_relay t.live new.live) arguments t new (outcome_view c.run_linked.result)) c.room_for.ensures.desk
    (performs_linked arguments c.requires.form.0 link (wire.name link) (wire.left link) roomed (told c.open_link.new.self) new (outcome_view c.run_linked.result) c.requires.form.1 c.in-Ok-open_link.ensures.named c.in-Ok-open_link.ensures.opened c.in-Ok-open_link.ensures.desk c.run_linked.ensures)

pub returns-in-Err : goal.returns-in-Err
returns-in-Err g c =
    let arguments = arguments_of c.args.arguments.now in
    let roomed = g.D.Environment.told c.room_for.new.desk in
    let new = g.D.Environment.told c.open_link.new.self in
    subst (λ (t : Told). Performs (watch_relay t.live new.live) arguments t new (Failed c.from.result)) c.room_for.ensures.desk
    (performs_unlinked arguments c.requires.form.0 c.in-Err.refusal c.from.result roomed new c.requires.form.1 c.from.ensures c.in-Err.ensures.desk)
