use Rattle.std.proofs.Common.{◌≡◌, ◌≤◌, None, Some, sym, subst, arith, length, map}
use Rattle.std.specs.Prelude.{All, List, vec_capacity}
use Rattle.tesla_frame.specs.declared.row.KeyRow.{KeyRow}
use Rattle.tesla_frame.specs.Frame.{ChainsRise}
use Rattle.tesla_walks.specs.ReachedIntervals.{IsHighest, index_at, is_reached}
use Rattle.tesla_state.specs.Stored.{holding_at}
use Rattle.tesla_walks.specs.Walking.{rows_of, tries}
use Rattle.tesla_walks.specs.Offered.{IsOfChains}
use Rattle.tesla_state.proofs.Gathering.{is_past, sum_filter}
use Rattle.tesla_state.proofs.UnreachedIntervals.{few_chains}
use Rattle.tesla_state.proofs.TriedIntervals.{highest_met, lower_too, spanned_releases, spanning_cost, spanning_more, spanning_none, spanning_room}
use Rattle.tesla_state.proofs.store.Store.try_span.Goals as goal

pub loop-interval-init : goal.loop-interval-init
loop-interval-init g c = record {
  walk = spanning_none c.args.newest.now.config.now c.args.newest.now.tips.now c.args.walks.now c.args.self.now.held c.args.reach.now.low c.args.reach.now.high c.args.batch.now.items c.requires.spans c.requires.empty c.requires.above;
  capacity = omega arith;
  cost = omega arith;
}

pub highest_reached-requires : goal.highest_reached-requires
highest_reached-requires g c =
    few_chains c.args.newest.now.tips.now (rows_of c.loop-interval.walks) c.requires.few (subst (λ (rows : List KeyRow). All (IsOfChains (length c.args.newest.now.tips.now)) rows) (sym c.loop-interval.invariant.walk.rows) c.requires.of_chains)

pub try_interval-requires : goal.try_interval-requires
try_interval-requires g c =
    let s = c.loop-interval.invariant.walk in
    let is = subst (IsHighest (is_reached (index_at c.args.reach.now.indices) (rows_of c.loop-interval.walks)) c.args.reach.now.low c.loop-interval.most) c.in-Some.is c.highest_reached.ensures in
    let kept : vec_capacity c.loop-interval.batch ≡ vec_capacity c.args.batch.now = c.loop-interval.invariant.capacity in
    let room : length c.args.self.now.held ≤ vec_capacity c.args.batch.now = c.requires.room in
    record {
      tips = c.requires.tips;
      chains = c.requires.chains;
      apart = c.requires.apart;
      rise = subst ChainsRise (sym s.rows) c.requires.rise;
      above = lower_too c.in-Some.interval c.loop-interval.most is.1 c.loop-interval.walks s.above;
      room = spanning_room c.args.newest.now.config.now c.args.newest.now.tips.now c.args.walks.now c.args.self.now.held c.loop-interval.walks c.in-Some.interval c.loop-interval.most (vec_capacity c.loop-interval.batch) c.loop-interval.batch.items (omega (arith, is.0)) is.1 s (omega arith);
    }

pub loop-interval-preserved : goal.loop-interval-preserved
loop-interval-preserved g c =
    let s = c.loop-interval.invariant.walk in
    let is = highest_met c.args.newest.now.config.now c.args.newest.now.tips.now c.args.walks.now c.args.self.now.held c.loop-interval.walks c.args.reach.now.indices c.args.reach.now.low c.loop-interval.most (Some c.in-Some.interval) c.requires.indices c.requires.of_chains s.rows
    (subst (IsHighest (is_reached (index_at c.args.reach.now.indices) (rows_of c.loop-interval.walks)) c.args.reach.now.low c.loop-interval.most) c.in-Some.is c.highest_reached.ensures) in
    let before : vec_capacity c.loop-interval.batch ≡ vec_capacity c.args.batch.now = c.loop-interval.invariant.capacity in
    let after : vec_capacity c.try_interval.new.batch ≡ vec_capacity c.loop-interval.batch = c.try_interval.ensures.capacity in
    record {
      walk = spanning_more c.args.newest.now.config.now c.args.newest.now.tips.now c.args.walks.now c.args.self.now.held c.loop-interval.walks c.try_interval.new.walks c.args.reach.now.low c.in-Some.interval c.loop-interval.most c.loop-interval.batch.items c.try_interval.new.batch.items is s
          c.try_interval.ensures.rows c.try_interval.ensures.above c.try_interval.ensures.releases c.try_interval.ensures.proved c.try_interval.ensures.long;
      capacity = omega arith;
      cost = spanning_cost c.args.newest.now.config.now c.args.newest.now.tips.now c.args.walks.now c.args.self.now.held c.loop-interval.walks c.try_interval.new.walks c.args.reach.now.low c.in-Some.interval c.loop-interval.most c.loop-interval.batch.items c.args.steps.now c.loop-interval.steps c.try_interval.new.steps is s
          c.loop-interval.invariant.cost c.try_interval.ensures.cost;
    }

pub returns : goal.returns
returns g c =
    let s = c.loop-interval.invariant.walk in
    let is = highest_met c.args.newest.now.config.now c.args.newest.now.tips.now c.args.walks.now c.args.self.now.held c.loop-interval.walks c.args.reach.now.indices c.args.reach.now.low c.loop-interval.most None c.requires.indices c.requires.of_chains s.rows
    (subst (IsHighest (is_reached (index_at c.args.reach.now.indices) (rows_of c.loop-interval.walks)) c.args.reach.now.low c.loop-interval.most) c.in_default.is c.highest_reached.ensures) in
    record {
      releases = spanned_releases c.args.newest.now.config.now c.args.newest.now.tips.now c.args.walks.now c.args.self.now.held c.loop-interval.walks c.args.reach.now.low c.args.reach.now.high c.loop-interval.most c.loop-interval.batch.items c.requires.spans is s;
      proved = s.proved;
      capacity = c.loop-interval.invariant.capacity;
      rows = s.rows;
      cost = omega (arith, c.loop-interval.invariant.cost, sum_filter (tries c.args.newest.now.config.now c.args.newest.now.tips.now (rows_of c.args.walks.now)) (is_past c.loop-interval.most) (map holding_at c.args.self.now.held));
    }
