use Rattle.std.proofs.Common.{◌≡◌, ◌≤◌, ◌+◌, ◌*◌, map, filter}
use Rattle.std.specs.Prelude.{vec_capacity}
use Rattle.tesla_state.specs.Stored.{holding_at}
use Rattle.tesla_walks.specs.Walking.{rows_of, left, pairs}
use Rattle.tesla_state.proofs.Gathering.{is_past}
use Rattle.tesla_state.proofs.TriedIntervals.{Spanning}
use Rattle.tesla_state.proofs.store.Store.try_span.Given as goal

abbrev pub invariant-loop-interval : goal.invariant-loop-interval
invariant-loop-interval g l = record {
  walk : Spanning l.newest.config.now l.newest.tips.now l.initial.walks l.walks l.self.held l.most l.batch.items;
  capacity : vec_capacity l.batch ≡ vec_capacity l.initial.batch;
  cost : l.steps + left l.newest.tips.now l.walks ≤ l.initial.steps + left l.newest.tips.now l.initial.walks + 2 * pairs l.newest.config.now l.newest.tips.now (rows_of l.initial.walks) (filter (is_past l.most) (map holding_at l.self.held));
}

-- the intervals are tried from the highest down
abbrev pub decreases-loop-interval : goal.decreases-loop-interval
decreases-loop-interval g l = l.most
