-- Judging the lines of seeds one after another.
use Rattle.std.proofs.Common.{◌≡◌, ℕ, zero, suc, ◌+◌, ◌<◌, true, false, List, [], ◌∷◌, ◌++◌, length, Result, Ok, Err, refl, ap, arith}
use Rattle.std.proofs.lemmas.Bool.Decides.{nat_tests}
use Rattle.std.proofs.lemmas.List.{append-nil}
use Rattle.tesla_base.specs.declared.names.Key.{Key}
use Rattle.tesla_commit.specs.Parsing.{between, lines}
use Rattle.tesla_seeds.specs.Judged.{is_end, wanted_line, first_seed, keys_judged}
use Rattle.tesla_seeds.specs.declared.refusal.SeedsKind.{SeedsKind}
use Rattle.tesla_seeds.specs.declared.refusal.SeedsKind.TheVariants.{WrongCount}
use Rattle.tesla_commit.proofs.RowLaws.{onto, onto_first}
use Rattle.tesla_commit.proofs.WordLaws.{has_first, is_only, lines_of_nothing}

-- an LF ends the line before it
pub wanted_is : (text line rest : List ℕ) → between 10 text ≡ line ∷ between 10 rest → wanted_line (between 10 text) ≡ Ok (line, between 10 rest)
wanted_is text line rest h =
    let n = has_first 10 rest in
    rw (h, n.2) refl

-- ---- the loop

-- no seed before those that are judged
pub nothing_before : (r : Result (List Key) (ℕ × SeedsKind)) → onto [] r ≡ r
nothing_before (Ok seeds) = refl
nothing_before (Err e) = refl

pub keys_step : (number more left : ℕ) (prefix : List Key) (text rest : List (List ℕ)) (key : Key) → more ≡ left + 1 → first_seed text ≡ Ok (key, rest) → onto prefix (keys_judged number more text) ≡ onto (prefix ++ key ∷ []) (keys_judged (number + 1) left rest)
unfolding keys_judged
keys_step number zero left prefix text rest key one h = absurd (omega arith)
keys_step number (suc more) left prefix text rest key one h =
    let same : left ≡ more = omega arith in
    rw (same, h) (onto_first prefix key (keys_judged (number + 1) more rest))

pub keys_refused : (number more : ℕ) (prefix : List Key) (text : List (List ℕ)) (kind : SeedsKind) → 0 < more → first_seed text ≡ Err kind → onto prefix (keys_judged number more text) ≡ Err (number, kind)
unfolding keys_judged
keys_refused number zero prefix text kind some h = absurd (omega arith)
keys_refused number (suc more) prefix text kind some h = rw h refl

-- where nothing stands a text has ended
nothing_ends : (text : List ℕ) → length text ≡ 0 → is_end (lines text) ≡ true
nothing_ends text none = ap is_end (lines_of_nothing text none)

-- where bytes stand it has not
goes_on : (text : List ℕ) (parts : List (List ℕ)) → lines text ≡ parts → 0 < length text → is_end parts ≡ false
goes_on text [] h some = refl
goes_on text (unended ∷ []) h some =
    let same : unended ≡ text = is_only text unended h in
    rw same (grind (arith, nat_tests))
goes_on text (line ∷ next ∷ others) h some = refl

pub keys_over : (number more : ℕ) (prefix : List Key) (text : List ℕ) → more ≡ 0 → 0 < length text → onto prefix (keys_judged number more (lines text)) ≡ Err (number, WrongCount)
unfolding keys_judged
keys_over number zero prefix text last some = rw (goes_on text (lines text) refl some) refl
keys_over number (suc more) prefix text last some = absurd (omega arith)

pub keys_end : (number more : ℕ) (prefix : List Key) (text : List ℕ) → more ≡ 0 → length text ≡ 0 → onto prefix (keys_judged number more (lines text)) ≡ Ok prefix
unfolding keys_judged
keys_end number zero prefix text last none = rw (nothing_ends text none) (ap Ok (append-nil prefix))
keys_end number (suc more) prefix text last none = absurd (omega arith)
