use Rattle.std.proofs.Common.{◌≡◌, ℕ, ◌+◌, refl, ap, ◌∙◌, arith}
use Rattle.std.specs.Prelude.{vec_capacity}
use Rattle.tesla_state.specs.declared.report.Report.{Report}
use Rattle.tesla_state.specs.Kept.{reserved_in, state_in}
use Rattle.tesla_state.specs.State.{State}
use Rattle.tesla_state.specs.Steps.{after_arrival, counted}
use Rattle.tesla_state.proofs.state.ReceiverState.arrive.Goals as goal

pub receive-verdict-requires : goal.receive-verdict-requires
receive-verdict-requires g c = record {
  read = c.requires.read;
  tips = c.self.invariant.tips_each;
  chains = c.self.invariant.chains;
  capacity = c.self.invariant.capacity;
  orders = c.self.invariant.orders;
  before = c.self.invariant.before;
  needed = c.self.invariant.needed;
  eight = c.self.invariant.eight;
  room = c.self.invariant.room;
}

pub returns-clause-state : goal.returns-clause-state
returns-clause-state g c =
    let i = c.self.inside in
    let new = c.receive-verdict.new.tables in
    let room : ℕ = reserved_in (vec_capacity i.tables.tips) i.tables.store (vec_capacity i.tables.walks) (vec_capacity i.tables.batch) (vec_capacity i.ended) in
    let same : reserved_in (vec_capacity new.tips) new.store (vec_capacity new.walks) (vec_capacity new.batch) (vec_capacity i.ended) ≡ room =
    omega (arith, c.receive-verdict.ensures.tips_room, c.receive-verdict.ensures.reserved, c.receive-verdict.ensures.eight, c.receive-verdict.ensures.room) in
    ap (λ (r : Report). state_in new i.ended.items r (i.calls + 1) (reserved_in (vec_capacity new.tips) new.store (vec_capacity new.walks) (vec_capacity new.batch) (vec_capacity i.ended))) c.count.ensures
    ∙ ap (state_in new i.ended.items (counted c.receive-verdict.result i.counts) (i.calls + 1)) same
    ∙ c.receive-verdict.ensures.state i.ended.items i.counts i.calls room refl
    ∙ ap (λ (s : State). after_arrival s c.args.reading c.args.bytes.now) c.self.view_is
