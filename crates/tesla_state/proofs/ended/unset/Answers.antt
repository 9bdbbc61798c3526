use Rattle.std.proofs.Common.{ℕ, ◌+◌, ◌∷◌, ◌++◌, [], false, Bool, List, ap, ◌∙◌, arith}
use Rattle.std.proofs.lemmas.List.{replicate_more}
use Rattle.tesla_state.proofs.ended.unset.Goals as goal

pub push_reserved-requires : goal.push_reserved-requires
push_reserved-requires c = omega (arith, c.loop.invariant.count, c.loop.invariant.room, c.clear.ensures.capacity, c.requires)

pub loop-preserved : goal.loop-preserved
loop-preserved c = record {
  flags = c.push_reserved.ensures.items ∙ ap (λ (fs : List Bool). fs ++ false ∷ []) c.loop.invariant.flags ∙ replicate_more c.loop.counter false;
  count = c.push_reserved.ensures.len ∙ ap (λ (n : ℕ). n + 1) c.loop.invariant.count;
  room = c.push_reserved.ensures.capacity ∙ c.loop.invariant.room;
}

pub returns-clause-capacity : goal.returns-clause-capacity
returns-clause-capacity c = c.loop.invariant.room ∙ c.clear.ensures.capacity
