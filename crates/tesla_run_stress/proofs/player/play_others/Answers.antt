use Rattle.std.proofs.Common.{◌≡◌, ◌∙◌, ◌∷◌, [], ◌++◌, List, ℕ, sym, ap, subst}
use Rattle.tesla_capture.specs.Capture.{Record, Arrives}
use Rattle.tesla_run_stress.specs.Load.{arrival_of, others_chosen}
use Rattle.tesla_run_stress.specs.Steps.{HasPlayed}
use Rattle.tesla_run_stress.proofs.Chosen.{others_before, others_none, others_twice}
use Rattle.tesla_run_stress.proofs.Histories.{played_none}
use Rattle.tesla_run_stress.proofs.player.play_others.Goals as goal

pub returns-then-choice-eq-TWICE-clause-played : goal.returns-then-choice-eq-TWICE-clause-played
returns-then-choice-eq-TWICE-clause-played g c = λ cfg records was.
    let text : List ℕ = c.args.frame.now in
    let is : Arrives c.reading_of.result text ∷ [] ≡ others_chosen c.args.choice c.args.k text c.args.before = ap (λ (r : ℕ). Arrives r text ∷ []) c.reading_of.ensures.value ∙ sym (others_twice c.args.choice c.args.k text c.args.before c.if-choice-eq-TWICE.true) in
    subst (λ (l : List Record). HasPlayed cfg (records ++ l) c.play_arrival.new.receiver) is (c.play_arrival.ensures.played cfg records was)

pub returns-then-choice-eq-AGAIN-clause-played : goal.returns-then-choice-eq-AGAIN-clause-played
returns-then-choice-eq-AGAIN-clause-played g c = λ cfg records was.
    let text : List ℕ = c.args.frame.now in
    let is : arrival_of c.reading_of-then-choice-eq-AGAIN.result c.args.before ≡ others_chosen c.args.choice c.args.k text c.args.before = ap (λ (r : ℕ). arrival_of r c.args.before) c.reading_of-then-choice-eq-AGAIN.ensures.value ∙ sym (others_before c.args.choice c.args.k text c.args.before c.if-choice-eq-AGAIN.true) in
    subst (λ (l : List Record). HasPlayed cfg (records ++ l) c.play_kept.new.receiver) is (c.play_kept.ensures.played cfg records was)

pub returns-else-choice-eq-AGAIN-clause-played : goal.returns-else-choice-eq-AGAIN-clause-played
returns-else-choice-eq-AGAIN-clause-played g c = λ cfg records was.
    subst (λ (l : List Record). HasPlayed cfg (records ++ l) c.args.receiver.now) (sym (others_none c.args.choice c.args.k c.args.frame.now c.args.before c.if-choice-eq-TWICE.false c.if-choice-eq-AGAIN.false)) (played_none cfg records _ was)
