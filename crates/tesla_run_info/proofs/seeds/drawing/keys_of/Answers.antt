use Rattle.std.proofs.Common.{List, ◌+◌, subst, sym}
use Rattle.tesla_base.specs.declared.names.Key.{Key}
use Rattle.tesla_run_info.specs.seeds.Drawn.{AreDrawn}
use Rattle.tesla_run_info.proofs.seeds.Drawn.{drawn_more}
use Rattle.tesla_run_info.proofs.seeds.drawing.keys_of.Goals as goal

pub loop-chain-preserved : goal.loop-chain-preserved
loop-chain-preserved c =
    subst (λ (keys : List Key). AreDrawn (c.loop-chain.chain + 1) c.args.bytes.now keys) (sym c.in_ok-push.ensures.items) (drawn_more c.loop-chain.chain c.args.bytes.now c.loop-chain.keys.items c.key_at.result c.loop-chain.invariant c.key_at.ensures.whole c.key_at.ensures.value)
