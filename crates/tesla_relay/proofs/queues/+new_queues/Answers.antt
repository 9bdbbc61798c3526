use Rattle.std.proofs.Common.{rules, sym, subst}
use Rattle.tesla_relay.specs.Queues.{AreNew}
use Rattle.tesla_relay.proofs.Queued.{new_more}
use Rattle.tesla_relay.proofs.queues.+new_queues.Goals as goal

pub new_queues-requires : goal.new_queues-requires
new_queues-requires g t c κs within = (search rules, (search rules, (search rules, (c.requires.capacity, (search rules, subst (λ qs. AreNew c.args.capacity qs) (sym c.push_reserved.ensures.items) (new_more c.args.capacity c.args.queues.now.items c.in_ok-queue.queue c.requires.new c.in_ok-queue.ensures))))))
