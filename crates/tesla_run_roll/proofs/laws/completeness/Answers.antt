use Rattle.std.proofs.Common.{refl}
use Rattle.tesla_run_replay.proofs.Under.{complete_under}
use Rattle.tesla_run_roll.specs.Roll.{history_of, roll_text, rolled}
use Rattle.tesla_run_roll.proofs.laws.completeness.Goals as goal

pub returns : goal.returns
returns c = complete_under rolled (λ cfg bytes. roll_text (history_of cfg bytes)) (λ cfg bytes. refl)
