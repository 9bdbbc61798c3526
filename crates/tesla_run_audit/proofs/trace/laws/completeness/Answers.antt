use Rattle.std.proofs.Common.{refl}
use Rattle.tesla_run_replay.specs.Playing.{history_report}
use Rattle.tesla_run_replay.specs.Replay.{history_of}
use Rattle.tesla_run_replay.proofs.Under.{complete_under}
use Rattle.tesla_run_audit.specs.trace.Trace.{traced}
use Rattle.tesla_run_audit.proofs.trace.laws.completeness.Goals as goal

pub returns : goal.returns
returns c = complete_under traced (λ cfg bytes. history_report (history_of cfg bytes)) (λ cfg bytes. refl)
