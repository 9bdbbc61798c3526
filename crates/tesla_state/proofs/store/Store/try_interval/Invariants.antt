use Rattle.std.proofs.Common.{◌≡◌, ◌+◌, ◌*◌, ◌≤◌, map, take, filter}
use Rattle.std.specs.Prelude.{vec_capacity}
use Rattle.tesla_state.specs.Stored.{holding_at, is_unreleased_of}
use Rattle.tesla_walks.specs.Walking.{rows_of, left, pairs}
use Rattle.tesla_state.proofs.TriedIntervals.{Trying}
use Rattle.tesla_state.proofs.store.Store.try_interval.Given as goal

abbrev pub invariant-loop-looked : goal.invariant-loop-looked
invariant-loop-looked g l = record {
  walk : Trying l.newest.config.now l.newest.tips.now l.initial.walks l.walks l.self.held l.interval l._looked l.next l.initial.batch.items l.batch.items;
  capacity : vec_capacity l.batch ≡ vec_capacity l.initial.batch;
  cost : l.steps + left l.newest.tips.now l.walks ≤ l.initial.steps + left l.newest.tips.now l.initial.walks + 2 * pairs l.newest.config.now l.newest.tips.now (rows_of l.initial.walks) (map holding_at (take l._looked (filter (is_unreleased_of l.interval) l.self.held)));
}
