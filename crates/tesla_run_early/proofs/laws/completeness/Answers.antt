use Rattle.std.proofs.Common.{refl}
use Rattle.tesla_run_replay.specs.Replay.{history_of}
use Rattle.tesla_run_replay.proofs.Under.{complete_under}
use Rattle.tesla_run_early.specs.Early.{played_early}
use Rattle.tesla_run_early.specs.Playing.{early_text}
use Rattle.tesla_run_early.proofs.laws.completeness.Goals as goal

pub returns : goal.returns
returns c = complete_under played_early (λ cfg bytes. early_text (history_of cfg bytes)) (λ cfg bytes. refl)
