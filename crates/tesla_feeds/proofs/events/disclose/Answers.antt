use Rattle.std.proofs.Common.{◌≡◌, List, length, sym, subst, arith}
use Rattle.tesla_feeds.specs.Events.{FeedAll}
use Rattle.tesla_feeds.specs.declared.listed.ListedFeeder.{ListedFeeder}
use Rattle.tesla_feeds.proofs.Stages.{told_all, written_back}
use Rattle.tesla_feeds.proofs.events.disclose.Goals as goal

pub returns-clause-takes : goal.returns-clause-takes
returns-clause-takes g c = λ fed all.
    let len : c.args.feeders.now.feeders.len ≡ length c.disclose_all.new.feeders = omega (arith, c.disclose_all.auto.feeders, c.as_mut_slice.ensures.len) in
    rw (written_back c.args.feeders.now.feeders.len c.disclose_all.new.feeders c.args.feeders.now.feeders.items len)
    (told_all fed c.args.reading c.as_mut_slice.result.now c.disclose_all.new.feeders c.args.feeders.now.counts c.disclose_all.new.counts _ _ _ _ (subst (λ (fs : List ListedFeeder). FeedAll fs c.args.feeders.now.counts fed) (sym c.as_mut_slice.ensures.value) all) c.disclose_all.ensures.does c.disclose_all.ensures.counts)
