use Rattle.std.proofs.Common.{◌≡◌, ◌∙◌, [], ◌∷◌, ◌++◌, List, ℕ, ap, arith, get_or, length}
use Rattle.std.proofs.lemmas.Grind.{common_steps}
use Rattle.tesla_recorder.specs.watched.Watched.{counts_in}
use Rattle.tesla_follow_station.proofs.counted.joined.Goals as goal

eight : (xs : List ℕ) → length xs ≡ 8 → (get_or xs 0 0 ∷ get_or xs 1 0 ∷ get_or xs 2 0 ∷ get_or xs 3 0 ∷ get_or xs 4 0 ∷ get_or xs 5 0 ∷ get_or xs 6 0 ∷ get_or xs 7 0 ∷ []) ≡ xs
eight xs long = grind (arith, common_steps)

five : (xs : List ℕ) → length xs ≡ 5 → (get_or xs 0 0 ∷ get_or xs 1 0 ∷ get_or xs 2 0 ∷ get_or xs 3 0 ∷ get_or xs 4 0 ∷ []) ≡ xs
five xs long = grind (arith, common_steps)

pub returns : goal.returns
returns c =
    let epochs : List ℕ = c.args.epochs.now in
    ap (λ (by_chain : List ℕ). counts_in c.args.report.now ++ by_chain ++ (get_or epochs 0 0 ∷ get_or epochs 1 0 ∷ get_or epochs 2 0 ∷ get_or epochs 3 0 ∷ get_or epochs 4 0 ∷ [])) (eight c.args.by_chain.now c.told-by_chain)
    ∙ ap (λ (xs : List ℕ). counts_in c.args.report.now ++ c.args.by_chain.now ++ xs) (five epochs c.told-epochs)
