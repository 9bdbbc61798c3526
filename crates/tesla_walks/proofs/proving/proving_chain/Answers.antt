use Rattle.std.proofs.Common.{◌≡◌, ℕ, ◌+◌, Bool, true, false, cond, List, ap, sym, ◌∙◌, length, arith}
use Rattle.std.specs.List.{range_with_len}
use Rattle.tesla_base.proofs.Lists.{find_number, find_no_number_more, find_no_number}
use Rattle.tesla_frame.specs.declared.row.KeyRow.{KeyRow}
use Rattle.tesla_walks.specs.ItemShown.{holding_in}
use Rattle.tesla_walks.specs.Proved.{proves_on}
use Rattle.tesla_walks.specs.Walking.{rows_of, is_tried}
use Rattle.tesla_walks.proofs.Tried.{counted_more, counted_prefix}
use Rattle.tesla_walks.proofs.proving.proving_chain.Goals as goal

pub returns-then-is_proved_on-clause-value : goal.returns-then-is_proved_on-clause-value
returns-then-is_proved_on-clause-value g c =
    let count = length c.args.config.now.setup.rows in
    let shown = holding_in count c.args.item.now in
    let on : List KeyRow → Bool = λ rows. proves_on c.args.config.now c.args.tips.now rows shown c.loop-chain.chain in
    let here : on (rows_of c.args.walks.now) ≡ true = ap on (sym c.loop-chain.invariant.1) ∙ sym c.is_proved_on.ensures.value ∙ c.if-is_proved_on.true in
    sym (find_number (proves_on c.args.config.now c.args.tips.now (rows_of c.args.walks.now) shown) count c.loop-chain.chain (omega arith) c.loop-chain.invariant.0 here)

pub returns-then-is_proved_on-clause-cost : goal.returns-then-is_proved_on-clause-cost
returns-then-is_proved_on-clause-cost g c =
    let count = length c.args.config.now.setup.rows in
    let shown = holding_in count c.args.item.now in
    let p = is_tried c.args.tips.now (rows_of c.args.walks.now) shown in
    let on : List KeyRow → ℕ = λ rows. cond (is_tried c.args.tips.now rows shown c.loop-chain.chain) 1 0 in
    let same : on (rows_of c.loop-chain.walks) ≡ on (rows_of c.args.walks.now) = ap on c.loop-chain.invariant.1 in
    let more = counted_more p count c.loop-chain.chain (omega arith) in
    let prefix = counted_prefix p (c.loop-chain.chain + 1) (range_with_len 0 count) in
    omega (arith, same, more, prefix, c.is_proved_on.ensures.cost, c.loop-chain.invariant.3)

pub loop-chain-preserved : goal.loop-chain-preserved
loop-chain-preserved g c =
    let count = length c.args.config.now.setup.rows in
    let shown = holding_in count c.args.item.now in
    let on : List KeyRow → Bool = λ rows. proves_on c.args.config.now c.args.tips.now rows shown c.loop-chain.chain in
    let here : on (rows_of c.args.walks.now) ≡ false = ap on (sym c.loop-chain.invariant.1) ∙ sym c.is_proved_on.ensures.value ∙ c.if-is_proved_on.false in
    let p = is_tried c.args.tips.now (rows_of c.args.walks.now) shown in
    let tries : List KeyRow → ℕ = λ rows. cond (is_tried c.args.tips.now rows shown c.loop-chain.chain) 1 0 in
    let same : tries (rows_of c.loop-chain.walks) ≡ tries (rows_of c.args.walks.now) = ap tries c.loop-chain.invariant.1 in
    let more = counted_more p count c.loop-chain.chain (omega arith) in (
      find_no_number_more (proves_on c.args.config.now c.args.tips.now (rows_of c.args.walks.now) shown) count c.loop-chain.chain (omega arith) c.loop-chain.invariant.0 here,
      c.is_proved_on.ensures.rows ∙ c.loop-chain.invariant.1,
      c.is_proved_on.ensures.above,
      omega (arith, same, more, c.is_proved_on.ensures.cost, c.loop-chain.invariant.3),
    )

pub returns-clause-value : goal.returns-clause-value
returns-clause-value g c =
    let count = length c.args.config.now.setup.rows in
    let shown = holding_in count c.args.item.now in
    sym (find_no_number (proves_on c.args.config.now c.args.tips.now (rows_of c.args.walks.now) shown) count c.loop-chain.chain (omega arith) c.loop-chain.invariant.0)
