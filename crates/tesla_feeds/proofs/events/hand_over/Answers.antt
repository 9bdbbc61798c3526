use Rattle.std.proofs.Common.{◌≡◌, List, length, sym, subst, arith}
use Rattle.tesla_feeds.specs.Events.{FeedAll}
use Rattle.tesla_feeds.specs.declared.listed.ListedFeeder.{ListedFeeder}
use Rattle.tesla_feeds.proofs.Stages.{handed_all, written_back}
use Rattle.tesla_feeds.proofs.events.hand_over.Goals as goal

pub returns-clause-takes : goal.returns-clause-takes
returns-clause-takes g c = λ fed all.
    let len : c.args.feeders.now.feeders.len ≡ length c.hand_over_on-sent.new.feeders = omega (arith, c.hand_over_on-sent.auto.feeders, c.as_mut_slice.ensures.len) in
    rw (written_back c.args.feeders.now.feeders.len c.hand_over_on-sent.new.feeders c.args.feeders.now.feeders.items len)
    (handed_all fed c.args.reading c.as_mut_slice.result.now c.hand_over_on-sent.new.feeders c.args.feeders.now.counts c.count_handover.new.self c.hand_over_on-sent.result _ _ _ _ (subst (λ (fs : List ListedFeeder). FeedAll fs c.args.feeders.now.counts fed) (sym c.as_mut_slice.ensures.value) all) c.hand_over_on-sent.ensures.does c.count_handover.ensures)
