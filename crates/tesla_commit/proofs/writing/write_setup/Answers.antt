use Rattle.std.proofs.Common.{◌≡◌, ◌++◌, ◌<◌, ◌≤◌, List, ℕ, length, ap, sym, subst, ◌∙◌, arith}
use Rattle.std.specs.List.{flat_map}
use Rattle.tesla_commit.specs.SetupText.{tag_line, chain_line, setup_text, IsSetup}
use Rattle.tesla_commit.proofs.Lengths.{text_is}
use Rattle.tesla_commit.proofs.Written.{chains_more, chains_all}
use Rattle.tesla_commit.proofs.writing.write_setup.Goals as goal

pub loop-chain-preserved : goal.loop-chain-preserved
loop-chain-preserved c =
    let inside : c.loop-chain.chain < length c.args.setup.now.rows = omega arith in
    c.in_ok-put_chain.ensures ∙ ap (λ (text : List ℕ). text ++ chain_line c.row.result) c.loop-chain.invariant ∙ chains_more _ _ _ _ inside c.row.ensures.value

pub returns-clause-spelled : goal.returns-clause-spelled
unfolding setup_text
returns-clause-spelled c =
    let rows = c.args.setup.now.rows in
    let passed : length rows ≤ c.loop-chain.chain = omega arith in
    let lines = chains_all _ _ rows _ passed c.loop-chain.invariant in
    let text : c.loop-chain.out.items ≡ setup_text c.args.setup.now = lines ∙ ap (λ (prefix : List ℕ). prefix ++ flat_map chain_line rows) (c.in_ok-put_tag.ensures ∙ ap (λ (prefix : List ℕ). prefix ++ tag_line c.args.setup.now.version c.args.setup.now.tag_length) c.in_ok-out.ensures) in
    subst (λ (bytes : List ℕ). IsSetup bytes c.args.setup.now) (sym text) (text_is c.args.setup.now c.count-chain-end.ensures.limits c.count-chain-end.ensures.keys)
