use Rattle.std.proofs.Common.{◌∷◌, [], ◌++◌, List, ℕ, subst}
use Rattle.tesla_capture.specs.Capture.{Arrives}
use Rattle.tesla_run_stress.specs.Steps.{HasPlayed}
use Rattle.tesla_run_stress.proofs.Histories.{played_none}
use Rattle.tesla_run_stress.proofs.player.play_kept.Goals as goal

pub returns-in-Some-clause-played : goal.returns-in-Some-clause-played
returns-in-Some-clause-played g c = λ cfg records was.
    rw c.in-Some.is (subst (λ (t : List ℕ). HasPlayed cfg (records ++ Arrives c.args.reading t ∷ []) c.play_arrival.new.receiver) c.as_slice.ensures (c.play_arrival.ensures.played cfg records was))

pub returns-in_default-clause-played : goal.returns-in_default-clause-played
returns-in_default-clause-played g c = λ cfg records was. rw c.in_default.is (played_none cfg records _ was)
