use Rattle.std.proofs.Common.{◌∙◌, [], ◌∷◌, ◌++◌, ap}
use Rattle.tesla_follow_station.specs.Stands.{CountedState}
use Rattle.tesla_follow_station.proofs.Counts.{by_chain_fits, by_chain_is, counted_now, falls_more}
use Rattle.tesla_follow_station.proofs.counted.CountedFollower.count.Goals as goal

pub by_chain_with-by_chain-requires : goal.by_chain_with-by_chain-requires
by_chain_with-by_chain-requires c k =
    let (h, entry, few, stood, counts_are, is) = c.requires in
    by_chain_fits _ c.counts.result.now h k (c.counts.ensures ∙ ap (λ (s : CountedState). s.counts) c.self.view_is ∙ counts_are) few

pub set-requires : goal.set-requires
set-requires c =
    let (h, entry, few, stood, counts_are, is) = c.requires in
    let was = c.counts.ensures ∙ ap (λ (s : CountedState). s.counts) c.self.view_is ∙ counts_are in
    (h ++ entry ∷ [], stood, falls_more _ _ _ h entry counts_are (by_chain_is _ c.counts.result.now _ h entry c.args.chain was is c.by_chain_with-by_chain.ensures))

pub returns-clause-stands : goal.returns-clause-stands
returns-clause-stands c h entry stood counts_are is =
    let was = c.counts.ensures ∙ ap (λ (s : CountedState). s.counts) c.self.view_is ∙ counts_are in
    counted_now c.args.self.now c.set.new.self _ (h ++ entry ∷ []) stood c.set.ensures.same.0 (c.set.ensures.counts (h ++ entry ∷ []) stood)
    (by_chain_is _ c.counts.result.now _ h entry c.args.chain was is c.by_chain_with-by_chain.ensures)
