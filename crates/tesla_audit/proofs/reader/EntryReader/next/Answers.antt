use Rattle.std.proofs.Common.{◌∙◌, ap, subst, sym}
use Rattle.tesla_records.specs.Steps.{Puts}
use Rattle.tesla_records.specs.declared.step.RecordsStep.{RecordsStep}
use Rattle.tesla_trace.specs.declared.kind.EntryFault.{EntryFault}
use Rattle.tesla_audit.specs.Steps.{records_step}
use Rattle.tesla_audit.proofs.reader.EntryReader.next.Goals as goal

pub returns-clause-entry : goal.returns-clause-entry
returns-clause-entry g c is =
    g.met.F.EntryFormat.holds tt _ _ (subst (λ (step : RecordsStep EntryFault (Unit {0})). Puts g.F.Format.fits step c.args.entry.now c.next.new.room) (sym c.step_of.ensures ∙ ap records_step is) c.next.ensures.room)
