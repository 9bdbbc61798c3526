use Rattle.std.proofs.Common.{◌≡◌, ℕ, ◌+◌, ◌∷◌, ◌++◌, [], length, sym, ap, ◌∙◌, arith, map, take}
use Rattle.tesla_commit.specs.declared.chain_row.ChainRow.{ChainRow}
use Rattle.tesla_keys.specs.Tip.{Tip}
use Rattle.tesla_walks.specs.Tips.{first_tip}
use Rattle.tesla_fitting.specs.Config.{chains}
use Rattle.tesla_walks.proofs.FirstTips.{length_numbers, map_number_more, map_numbers}
use Rattle.tesla_walks.proofs.tips.begin_tips.Goals as goal

pub push_reserved-requires : goal.push_reserved-requires
push_reserved-requires c = omega (arith, c.loop-chain.invariant.count, c.loop-chain.invariant.room, c.clear.ensures.capacity, c.count-chain-end.ensures.few, c.requires)

pub loop-chain-preserved : goal.loop-chain-preserved
loop-chain-preserved c =
    let prefix = map (first_tip c.args.config.now) (take c.loop-chain.chain (chains c.args.config.now)) in
    let tip : c.new.result ≡ first_tip c.args.config.now c.loop-chain.chain =
    c.new.ensures ∙ ap (λ (r : ChainRow). record { index = r.index; key = r.key }) c.chain_row-row.ensures in
    record {
      tips = c.push_reserved.ensures.items ∙ ap (λ ts. ts ++ c.new.result ∷ []) c.loop-chain.invariant.tips
          ∙ ap (λ (t : Tip). prefix ++ t ∷ []) tip
          ∙ sym (map_number_more (first_tip c.args.config.now) (length c.args.config.now.setup.rows) c.loop-chain.chain (omega arith));
      count = c.push_reserved.ensures.len ∙ ap (λ (n : ℕ). n + 1) c.loop-chain.invariant.count;
      room = c.push_reserved.ensures.capacity ∙ c.loop-chain.invariant.room;
    }

pub returns-clause-tips : goal.returns-clause-tips
returns-clause-tips c =
    map_numbers (first_tip c.args.config.now) (length c.args.config.now.setup.rows) c.loop-chain.chain c.loop-chain.tips.items (omega arith) c.loop-chain.invariant.tips

pub returns-clause-count : goal.returns-clause-count
returns-clause-count c =
    length_numbers (first_tip c.args.config.now) (length c.args.config.now.setup.rows) c.loop-chain.tips.items
    (map_numbers (first_tip c.args.config.now) (length c.args.config.now.setup.rows) c.loop-chain.chain c.loop-chain.tips.items (omega arith) c.loop-chain.invariant.tips)

pub returns-clause-room : goal.returns-clause-room
returns-clause-room c = c.loop-chain.invariant.room ∙ c.clear.ensures.capacity
