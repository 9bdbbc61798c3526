use Rattle.std.proofs.Common.{subst, refl, sym}
use Rattle.tesla_relay.specs.Feeding.{ServerSeen}
use Rattle.tesla_relay.specs.Lists.{Ends}
use Rattle.tesla_relay.proofs.Settled.{settles}
use Rattle.tesla_relay.proofs.queues.settle_one.Goals as goal

pub returns : goal.returns
returns g c capacity arrived start ends =
    settles capacity arrived start c.args.feed _ (record { sent = _; dropped = _; failed = _ }) c.settle.ensures.0 (subst (λ (s : ServerSeen). Ends capacity arrived start c.args.feed s) (sym c.server.view_is) ends) c.settle.ensures.1 refl refl refl
