use Rattle.std.proofs.Common.{◌≡◌, ◌∙◌, subst, sym}
use Rattle.tesla_front.specs.OutcomeView.{Failed}
use Rattle.tesla_front.specs.Fault.{unopened}
use Rattle.tesla_front.specs.Run.{HasNoConsole}
use Rattle.tesla_front.specs.declared.fault.Fault.{Fault}
use Rattle.tesla_front.proofs.Consoles.{unopened_console}
use Rattle.tesla_front.proofs.table.open_console.Goals as goal

pub returns-in-Err-clause-refused : goal.returns-in-Err-clause-refused
returns-in-Err-clause-refused g c fault is =
    let old = g.D.Environment.told c.args.desk.now in
    let new = g.D.Environment.told c.open_console.new.self in
    let one : c.from.result ≡ fault = cc in
    let same : unopened c.in-Err.refusal ≡ fault = sym c.from.ensures ∙ one in
    subst (λ (f : Fault). HasNoConsole old new (Failed f)) same (unopened_console _ c.in-Err.refusal old new c.in-Err.ensures.desk)
