use Rattle.std.proofs.Common.{rules, []}
use Rattle.tesla_relay.proofs.Queued.{new_fed}
use Rattle.tesla_relay.proofs.queues.new_queue.Goals as goal

pub returns : goal.returns
returns g c = record {
  feeding = record { own = search rules; items = []; view_is = search rules; counts = search rules; below = tt; first = search rules; room = search rules; few = search rules };
  fed = new_fed c.new.result (search rules) (search rules);
  came = search rules;
  capacity_is = search rules;
  own = search rules;
  view_is = search rules;
  table = search rules;
}
