use Rattle.std.proofs.Common.{◌++◌, List, sym, subst}
use Rattle.tesla_capture.specs.Capture.{Record}
use Rattle.tesla_run_stress.specs.Steps.{HasPlayed}
use Rattle.tesla_run_stress.proofs.Chosen.{arrivals_from, arrivals_none}
use Rattle.tesla_run_stress.proofs.Histories.{played_both, played_none}
use Rattle.tesla_run_stress.proofs.player.play_arrivals.Goals as goal

pub returns-then-choice-lt2-clause-played : goal.returns-then-choice-lt2-clause-played
returns-then-choice-lt2-clause-played g c = λ cfg records was.
    subst (λ (l : List Record). HasPlayed cfg (records ++ l) c.args.receiver.now) (sym (arrivals_none c.args.choice c.args.k c.args.frame.now c.args.before c.if-choice-lt2.true)) (played_none cfg records _ was)

pub returns-clause-played : goal.returns-clause-played
returns-clause-played g c = λ cfg records was.
    let both = played_both cfg records _ _ _ (c.play_others.ensures.played cfg _ (c.play_arrival.ensures.played cfg records was)) in
    subst (λ (l : List Record). HasPlayed cfg (records ++ l) c.play_others.new.receiver)
    (arrivals_from c.args.choice c.args.k c.reading_chosen.result c.args.frame.now c.alter.new.frame c.offset_chosen.result c.args.before c.if-choice-lt2.false c.reading_chosen.ensures c.offset_chosen.ensures c.alter.ensures) both
