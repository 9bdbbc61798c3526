use Rattle.std.proofs.Common.{◌≡◌, List, length, sym, subst, arith}
use Rattle.tesla_feeds.specs.Events.{FeedAll}
use Rattle.tesla_feeds.specs.declared.listed.ListedFeeder.{ListedFeeder}
use Rattle.tesla_feeds.proofs.Stages.{said_all, written_back}
use Rattle.tesla_feeds.proofs.events.say.Goals as goal

pub returns-clause-takes : goal.returns-clause-takes
returns-clause-takes g c = λ fed all.
    let len : c.args.feeders.now.feeders.len ≡ length c.say_on-said.new.feeders = omega (arith, c.say_on-said.auto.feeders, c.as_mut_slice.ensures.len) in
    rw (written_back c.args.feeders.now.feeders.len c.say_on-said.new.feeders c.args.feeders.now.feeders.items len)
    (said_all fed c.args.reading c.args.payload.now c.as_mut_slice.result.now c.say_on-said.new.feeders c.args.feeders.now.counts c.count_message.new.self c.say_on-said.result _ _ _ _ (subst (λ (fs : List ListedFeeder). FeedAll fs c.args.feeders.now.counts fed) (sym c.as_mut_slice.ensures.value) all) c.say_on-said.ensures.does c.count_message.ensures)
