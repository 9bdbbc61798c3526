use Rattle.std.proofs.Common.{◌≡◌, sym, subst, arith, map, List}
use Rattle.std.specs.Prelude.{vec_capacity}
use Rattle.tesla_walks.specs.declared.release.Release.{Release}
use Rattle.tesla_walks.specs.Proved.{RiseBy, arrival_number, release_in}
use Rattle.tesla_state.specs.Steps.{batch_of}
use Rattle.tesla_state.specs.Stored.{holding_at, AreProved}
use Rattle.tesla_walks.specs.Walking.{rows_of}
use Rattle.tesla_state.proofs.Batch.{numbers_differ, slots_differ, proved_permuted}
use Rattle.tesla_state.proofs.Gathering.{batch_rises}
use Rattle.tesla_state.proofs.store.Store.prove_held.Goals as goal

pub returns : goal.returns
returns g c =
    let releases : List Release = batch_of c.args.newest.now.config.now c.args.newest.now.tips.now (rows_of c.args.walks.now) (map holding_at c.args.self.now.held) in
    let rises : RiseBy arrival_number releases = batch_rises c.args.newest.now.config.now c.args.newest.now.tips.now (rows_of c.args.walks.now) (map holding_at c.args.self.now.held) c.requires.orders in
    let told : map release_in c.order.new.batch.items ≡ releases = c.order.ensures.order releases rises c.try_span.ensures.releases in
    let proved : AreProved c.args.self.now.held c.order.new.batch.items = proved_permuted c.args.self.now.held c.try_span.new.batch.items c.order.new.batch.items c.order.ensures.same c.try_span.ensures.proved in
    let before : vec_capacity c.try_span.new.batch ≡ vec_capacity c.args.batch.now = c.try_span.ensures.capacity in
    let after : vec_capacity c.order.new.batch ≡ vec_capacity c.try_span.new.batch = c.order.ensures.capacity in
    record {
      releases = told;
      proved = proved;
      slots = slots_differ c.order.new.batch.items c.args.self.now.held c.requires.apart proved (numbers_differ c.order.new.batch.items (subst (RiseBy arrival_number) (sym told) rises));
      capacity = omega arith;
      rows = c.try_span.ensures.rows;
      cost = c.try_span.ensures.cost;
    }
