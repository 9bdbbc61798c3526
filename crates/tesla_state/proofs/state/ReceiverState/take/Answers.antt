use Rattle.std.proofs.Common.{ℕ, ◌+◌, ◌<◌, ◌^◌, ap, sym, ◌∙◌, subst, List}
use Rattle.std.specs.Prelude.{vec_capacity}
use Rattle.tesla_keys.specs.Tip.{Tip}
use Rattle.tesla_state.specs.State.{State}
use Rattle.tesla_state.specs.Stored.{Stored, IsGiven}
use Rattle.tesla_state.specs.Kept.{reserved_in, state_in, state_of}
use Rattle.tesla_state.specs.Steps.{reply_by, after_take}
use Rattle.tesla_state.proofs.Batch.{orders_differ}
use Rattle.tesla_state.proofs.TakenNext.{none_taken, kept_taken, state_taken, answer_is}
use Rattle.tesla_state.proofs.state.ReceiverState.take.Goals as goal

pub take-head-requires-clause-orders : goal.take-head-requires-clause-orders
take-head-requires-clause-orders c = orders_differ c.self.inside.tables.store.held c.self.invariant.orders

pub returns-in_default-clause-state : goal.returns-in_default-clause-state
returns-in_default-clause-state c =
    let i = c.self.inside in
    let none = c.in_default.ensures.given in
    ap (λ (t : Stored). state_of i.tables.config i.tables.tips.items t i.ended.items i.counts (i.calls + 1) (reserved_in (vec_capacity i.tables.tips) t (vec_capacity i.tables.walks) (vec_capacity i.tables.batch) (vec_capacity i.ended))) none.1
    ∙ none_taken (state_in i.tables i.ended.items i.counts i.calls (reserved_in (vec_capacity i.tables.tips) i.tables.store (vec_capacity i.tables.walks) (vec_capacity i.tables.batch) (vec_capacity i.ended))) none.0
    ∙ ap after_take c.self.view_is

pub invariant_of-self-2 : goal.invariant_of-self-2
invariant_of-self-2 c =
    let i = c.self.inside in
    let fits : i.calls + 1 < 2 ^ 64 = subst (λ (s : State). s.calls + 1 < 2 ^ 64) (sym c.self.view_is) c.requires in
    kept_taken i.tables.config i.tables.tips.items i.tables.store c.take-head.new.self (vec_capacity i.tables.tips) (vec_capacity i.tables.walks) (vec_capacity i.tables.batch) (vec_capacity i.ended) i.counts i.calls c.in-Some.head c.args.into.now c.take-head.new.into c.self.invariant fits
    c.take-head.ensures.capacity c.take-head.ensures.chains (subst (λ (ts : List Tip). IsGiven i.tables.config ts i.counts.given i.tables.store c.take-head.new.self c.in-Some.head c.args.into.now c.take-head.new.into) c.as_slice.ensures.value c.in-Some.ensures.given)

pub returns-clause-answer : goal.returns-clause-answer
returns-clause-answer c =
    let i = c.self.inside in
    answer_is i.tables.config i.tables.tips.items i.tables.store c.take-head.new.self i.ended.items i.counts i.calls (reserved_in (vec_capacity i.tables.tips) i.tables.store (vec_capacity i.tables.walks) (vec_capacity i.tables.batch) (vec_capacity i.ended)) c.in-Some.head c.args.into.now c.take-head.new.into (subst (λ (ts : List Tip). IsGiven i.tables.config ts i.counts.given i.tables.store c.take-head.new.self c.in-Some.head c.args.into.now c.take-head.new.into) c.as_slice.ensures.value c.in-Some.ensures.given)
    ∙ ap reply_by c.self.view_is

pub returns-clause-state : goal.returns-clause-state
returns-clause-state c =
    let i = c.self.inside in
    ap (λ (n : ℕ). state_of i.tables.config i.tables.tips.items c.take-head.new.self i.ended.items (record i.counts { given = i.counts.given + 1 }) (i.calls + 1) (vec_capacity i.tables.tips + n + vec_capacity i.tables.walks + vec_capacity i.tables.batch + vec_capacity i.ended)) c.take-head.ensures.reserved
    ∙ state_taken i.tables.config i.tables.tips.items i.tables.store c.take-head.new.self i.ended.items i.counts i.calls (reserved_in (vec_capacity i.tables.tips) i.tables.store (vec_capacity i.tables.walks) (vec_capacity i.tables.batch) (vec_capacity i.ended)) c.in-Some.head c.args.into.now c.take-head.new.into (subst (λ (ts : List Tip). IsGiven i.tables.config ts i.counts.given i.tables.store c.take-head.new.self c.in-Some.head c.args.into.now c.take-head.new.into) c.as_slice.ensures.value c.in-Some.ensures.given)
    ∙ ap after_take c.self.view_is
