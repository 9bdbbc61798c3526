use Rattle.std.proofs.Common.{◌≡◌, ◌-◌, ◌≤◌, ℕ, List, true}
use Rattle.tesla_fitting.specs.declared.config.Config.{Config}
use Rattle.tesla_records.specs.Grammar.{limit}
use Rattle.tesla_trace.specs.Entries.{IsEntry, entry_in}
use Rattle.tesla_run_audit.specs.Judging.{IsAt}
use Rattle.tesla_run_audit.proofs.judging.judge_all.Given as goal

abbrev pub invariant-loop-outcome : goal.invariant-loop-outcome
invariant-loop-outcome g l = record {
  entry : IsEntry l.audit.entry;
  calls : l.audit.auditor.calls ≤ l.audit.reader.place;
  limited : l.audit.reader.place ≤ limit;
  going : l.audit.reader.going ≡ true;
  faults : g.S.Source.faults l.source ≡ g.S.Source.faults l.initial.source;
  name : g.S.Source.name l.source ≡ g.S.Source.name l.initial.source;
  at : (cfg : ℕ → Config) (bytes : List ℕ) → IsAt cfg bytes l.initial.audit.auditor l.initial.audit.reader (g.S.Source.left l.initial.source) (entry_in l.initial.audit.entry)
      → IsAt cfg bytes l.audit.auditor l.audit.reader (g.S.Source.left l.source) (entry_in l.audit.entry);
}

abbrev pub decreases-loop-outcome : goal.decreases-loop-outcome
decreases-loop-outcome g l = limit - l.audit.reader.place
