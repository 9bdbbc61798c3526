use Rattle.std.proofs.Common.{◌∙◌, ◌+◌, ◌<◌, ◌^◌, ◌++◌, ℕ, List, Option, cond, get_or, map, set, sym, ap, subst}
use Rattle.std.specs.Prelude.{nat_lt}
use Rattle.std.specs.List.{range_with_len}
use Rattle.tesla_recorder.specs.watched.Chains.{is_chain}
use Rattle.tesla_recorder.specs.watched.Watched.{counts_in}
use Rattle.tesla_recorder.proofs.watched.Counted.{count_fits, raised_on}
use Rattle.tesla_recorder.proofs.watched.watched.counts_after.Goals as goal

pub raise-requires : goal.raise-requires
raise-requires c k =
    let f : ℕ → ℕ = λ chain. get_or c.args.before.now (11 + chain) 0 in
    subst (λ (counts : List ℕ). get_or counts (11 + k) 0 + 1 < 2 ^ 64) (sym c.counts_with-counts.ensures) (count_fits c.args.report.now f k c.requires)

pub returns-in-Some : goal.returns-in-Some
returns-in-Some c =
    let f : ℕ → ℕ = λ chain. get_or c.args.before.now (11 + chain) 0 in
    let chain : ℕ = c.in-Some.chain in
    c.raise.ensures ∙ ap (λ (counts : List ℕ). cond (nat_lt chain 8) (set counts (11 + chain) (get_or counts (11 + chain) 0 + 1)) counts) c.counts_with-counts.ensures
    ∙ raised_on c.args.report.now f chain
    ∙ ap (λ (given : Option ℕ). counts_in c.args.report.now ++ map (λ k. cond (is_chain k given) (f k + 1) (f k)) (range_with_len 0 8)) (sym c.in-Some.is)
