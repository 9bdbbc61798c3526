use Rattle.std.proofs.Common.{◌≡◌, ◌++◌, ◌<◌, ◌≤◌, List, ℕ, length, ap, sym, subst, ◌∙◌, arith}
use Rattle.std.specs.Prelude.{codes}
use Rattle.tesla_commit.specs.SetupText.{line}
use Rattle.tesla_seeds.specs.Text.{IsSeeds, seed_line, seeds_text}
use Rattle.tesla_seeds.proofs.Texts.{seeds_text_is}
use Rattle.tesla_seeds.proofs.Written.{seeds_all, seeds_more}
use Rattle.tesla_seeds.proofs.writing.write_seeds.Goals as goal

pub loop-chain-preserved : goal.loop-chain-preserved
loop-chain-preserved c =
    let inside : c.loop-chain.chain < length c.args.seeds.now = omega arith in
    c.in_ok-put_seed.ensures ∙ ap (λ (text : List ℕ). text ++ seed_line c.get.result) c.loop-chain.invariant ∙ seeds_more (line (codes "tesla-seeds") (codes "1")) _ _ _ inside c.get.ensures.value

pub returns-clause-spelled : goal.returns-clause-spelled
unfolding seeds_text
returns-clause-spelled c = λ few.
    let seeds = c.args.seeds.now in
    let passed : length seeds ≤ c.loop-chain.chain = omega arith in
    let text : c.loop-chain.out.items ≡ seeds_text seeds = seeds_all _ (line (codes "tesla-seeds") (codes "1")) seeds _ passed c.loop-chain.invariant in
    subst (λ (bytes : List ℕ). IsSeeds bytes (length seeds) seeds) (sym text) (seeds_text_is seeds few c.count-chain-end.ensures.keys)
