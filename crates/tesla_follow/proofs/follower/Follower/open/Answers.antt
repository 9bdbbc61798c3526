use Rattle.std.proofs.Common.{◌≡◌, ◌+◌, ℕ, List, true, false, [], to_z, of_z, replicate, sym, ap, subst, ◌∙◌, arith}
use Rattle.std.specs.Int.{w64}
use Rattle.tesla_base.specs.declared.names.StreamId.{StreamId}
use Rattle.tesla_fitting.specs.declared.config.Config.{Config}
use Rattle.tesla_follow.specs.Counted.{no_report}
use Rattle.tesla_follow.specs.Followed.{Accepted}
use Rattle.tesla_follow.specs.Kept.{Waits, reserved_in}
use Rattle.tesla_follow.specs.Stands.{FollowStands, FollowState}
use Rattle.tesla_follow.proofs.Begun.{kept_none, stands_none}
use Rattle.tesla_follow.proofs.follower.Follower.open.Goals.{In_ok-vec}
use Rattle.tesla_follow.proofs.follower.Follower.open.Goals as goal

flags : (c : In_ok-vec) → c.in_ok-vec.field-0.items ≡ replicate c.args.ingests false
flags c = c.in_ok-vec.ensures.items_if_clones_equal (λ x is. is) ∙ ap (λ (n : ℕ). replicate n false) c.from.ensures

pub invariant_of-result : goal.invariant_of-result
invariant_of-result c =
    let a = c.args in
    let cfg : Config = record { setup = a.setup; lag = to_z w64 (of_z w64 a.lag); capacity = a.capacity; quota = a.quota; ingests = a.ingests } in
    let queue : c.in_ok-open-2.field-0 ≡ record { capacity = a.capacity; waiting = [] } = c.in_ok-open-2.ensures in
    let few = c.ranges.ingests.fits in
    kept_none cfg c.in_ok-epochs.epochs.items c.in_ok-spares.spares.items c.in_ok-epochs.epochs.cap c.in_ok-spares.spares.cap c.in_ok-open-2.field-0 c.in_ok-vec.field-0.items
    c.in_ok-epochs.ensures.count c.in_ok-spares.ensures.count c.in_ok-epochs.ensures.new c.in_ok-spares.ensures.new c.in_ok-epochs.ensures.capacity c.in_ok-spares.ensures.capacity
    (ap (λ (q : Waits). q.capacity) queue) (ap (λ (q : Waits). q.waiting) queue) c.requires.few (omega (arith, few))
    (flags (goal.at.invariant_of-result c).In_ok-vec)

pub returns-clause-stands : goal.returns-clause-stands
returns-clause-stands c =
    let a = c.args in
    let cfg : Config = record { setup = a.setup; lag = to_z w64 (of_z w64 a.lag); capacity = a.capacity; quota = a.quota; ingests = a.ingests } in
    let queue : c.in_ok-open-2.field-0 ≡ record { capacity = a.capacity; waiting = [] } = c.in_ok-open-2.ensures in
    let reserved = reserved_in c.in_ok-epochs.epochs.items c.in_ok-spares.spares.items (c.in_ok-epochs.epochs.cap + c.in_ok-spares.spares.cap) c.in_ok-open-2.field-0.capacity c.in_ok-vec.field-0.cap in
    let state : List StreamId → List Accepted → FollowState = λ known waiting. record {
      config = cfg;
      opened = 1;
      receiving = c.in_ok-epochs.epochs.items;
      known = known;
      queue = waiting;
      turn = true;
      ended = c.in_ok-vec.field-0.items;
      records = 0;
      early = 0;
      unqueued = 0;
      dropped = 0;
      closed = no_report;
      calls = 0;
      reserved = reserved;
    } in
    subst (λ (known : List StreamId). FollowStands (state known c.in_ok-open-2.field-0.waiting) []) (sym c.in_ok-open.ensures)
    (subst (λ (waiting : List Accepted). FollowStands (state [] waiting) []) (sym (ap (λ (q : Waits). q.waiting) queue))
    (stands_none cfg c.in_ok-epochs.epochs.items c.in_ok-vec.field-0.items reserved c.in_ok-epochs.ensures.count c.in_ok-epochs.ensures.new (flags (goal.at.returns-clause-stands c).In_ok-vec)))
