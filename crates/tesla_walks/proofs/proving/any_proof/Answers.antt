use Rattle.std.proofs.Common.{◌≡◌, ◌<◌, sym, ◌∙◌, get_or, length, arith, subst}
use Rattle.std.proofs.lemmas.Bool.{eqb-true}
use Rattle.std.proofs.lemmas.List.Quantifiers.{position-Some}
use Rattle.std.proofs.Math.Seq.{map-set_same}
use Rattle.tesla_walks.specs.ItemShown.{holding_in}
use Rattle.tesla_fitting.specs.Rows.{is_of}
use Rattle.tesla_walks.specs.Proved.{is_proof_of}
use Rattle.tesla_walks.specs.Tips.{tip_at}
use Rattle.tesla_walks.specs.Walking.{row_of}
use Rattle.tesla_walks.proofs.Tried.{position_none, any_none, any_at, cost_at, skips_proof, proof_here}
use Rattle.tesla_walks.proofs.proving.any_proof.Goals as goal

pub returns-in_default-clause-value : goal.returns-in_default-clause-value
returns-in_default-clause-value g c =
    let shown = holding_in (length c.args.config.now.setup.rows) c.args.item.now in
    sym (any_none (is_proof_of c.args.config.now shown c.args.chain) c.args.chain (skips_proof c.args.config.now shown c.args.chain) c.args.walks.now
    (position_none (λ w. is_of c.args.chain w.row) c.args.walks.now (sym c.arrival_number.ensures ∙ c.in_default.is)))

pub proves-requires-clause-chain : goal.proves-requires-clause-chain
proves-requires-clause-chain g c =
    let found = position-Some (λ w. is_of c.args.chain w.row) c.args.walks.now c.in-Some.place c.index-walks-place.result (sym c.arrival_number.ensures ∙ c.in-Some.is) in
    omega (arith, eqb-true (get_or c.args.walks.now c.in-Some.place c.index-walks-place.result).row.chain.0 c.args.chain found.1)

pub returns-clause-value : goal.returns-clause-value
returns-clause-value g c =
    let shown = holding_in (length c.args.config.now.setup.rows) c.args.item.now in
    let found = position-Some (λ w. is_of c.args.chain w.row) c.args.walks.now c.in-Some.place c.index-walks-place.result (sym c.arrival_number.ensures ∙ c.in-Some.is) in
    let here = get_or c.args.walks.now c.in-Some.place c.index-walks-place.result in
    c.proves.ensures.value ∙ sym (proof_here c.args.config.now shown c.args.chain here.row found.1)
    ∙ sym (any_at (is_proof_of c.args.config.now shown c.args.chain) c.args.chain (skips_proof c.args.config.now shown c.args.chain) c.args.walks.now c.in-Some.place c.index-walks-place.result c.requires.rise found.0 found.1)

pub returns-clause-rows : goal.returns-clause-rows
returns-clause-rows g c =
    map-set_same row_of c.args.walks.now c.in-Some.place c.proves.new.walking c.index-walks-place.result c.proves.ensures.row

pub returns-clause-cost : goal.returns-clause-cost
returns-clause-cost g c tips newer =
    let found = position-Some (λ w. is_of c.args.chain w.row) c.args.walks.now c.in-Some.place c.index-walks-place.result (sym c.arrival_number.ensures ∙ c.in-Some.is) in
    let here = get_or c.args.walks.now c.in-Some.place c.index-walks-place.result in
    let own : here.row.chain.0 ≡ c.args.chain = eqb-true here.row.chain.0 c.args.chain found.1 in
    cost_at tips c.args.walks.now c.in-Some.place c.args.chain c.args.item.now.name.interval c.args.steps.now c.proves.new.steps c.proves.new.walking c.index-walks-place.result c.requires.rise found.0 found.1
    (c.proves.ensures.cost tips (subst (λ n. (tip_at tips n).index < c.args.item.now.name.interval) (sym own) newer))
