use Rattle.std.proofs.Common.{◌≡◌, ◌+◌, true, length, refl, set, sym, ap, subst, ◌∙◌, arith}
use Rattle.std.proofs.lemmas.List.{length-set}
use Rattle.tesla_receiver.specs.History.{Ends}
use Rattle.tesla_follow.specs.History.{followed}
use Rattle.tesla_follow.specs.Kept.{IsFollowKept, reserved_in, rooms_of, set_count}
use Rattle.tesla_follow.specs.Stands.{FollowStands, FollowState}
use Rattle.tesla_follow.proofs.Asked.{same_rooms}
use Rattle.tesla_follow.proofs.Called.{flags_marked, kept_called, marked_more}
use Rattle.tesla_follow.proofs.Histories.{stands_more}
use Rattle.tesla_follow.proofs.Moved.{keeps_ended}
use Rattle.tesla_follow.proofs.follower.Follower.end.Goals as goal

pub end_open-requires : goal.end_open-requires
end_open-requires c = let few = c.self.invariant.few in (c.self.inside.calls, omega (arith, few), c.self.invariant.called)

pub invariant_of-self : goal.invariant_of-self
invariant_of-self c =
    let i = c.self.inside in
    let calls : i.calls ≡ c.args.self.now.calls = ap (λ (s : FollowState). s.calls) c.self.view_is in
    let below = c.requires in
    let none = kept_called i.config i.epochs.items c.end_open.new.epochs.items i.spares.items c.end_open.new.epochs.cap i.spares.cap i.opened i.queue i.queue i.ended.items c.mark.new.flags.items i.records i.early i.unqueued 0 i.dropped i.calls
    (subst (λ n. IsFollowKept i.config i.epochs.items i.spares.items n i.spares.cap i.opened i.queue i.ended.items i.records i.early i.unqueued i.dropped i.calls) (sym c.end_open.ensures.capacity) c.self.invariant)
    (omega (arith, calls, below)) c.end_open.ensures.shapes
    (c.end_open.ensures.calls i.calls c.self.invariant.called) refl c.self.invariant.waiting (ap length c.mark.ensures.flags ∙ length-set i.ended.items c.from.result true)
    (let more = marked_more i.ended.items c.from.result in let count = ap set_count c.mark.ensures.flags in omega (arith, more, count)) (omega arith) in
    let plain : i.unqueued + 0 ≡ i.unqueued = omega arith in
    subst (λ n. IsFollowKept i.config c.end_open.new.epochs.items i.spares.items c.end_open.new.epochs.cap i.spares.cap i.opened i.queue c.mark.new.flags.items i.records i.early n i.dropped (i.calls + 1)) plain none

pub returns-clause-stands : goal.returns-clause-stands
returns-clause-stands c h st =
    let i = c.self.inside in
    let reserved = reserved_in i.epochs.items i.spares.items (i.epochs.cap + i.spares.cap) i.queue.capacity i.ended.cap in
    let before : FollowState = record {
      config = i.config;
      opened = i.opened;
      receiving = i.epochs.items;
      known = i.known;
      queue = i.queue.waiting;
      turn = i.turn;
      ended = i.ended.items;
      records = i.records;
      early = i.early;
      unqueued = i.unqueued;
      dropped = i.dropped;
      closed = i.closed;
      calls = i.calls;
      reserved = reserved;
    } in
    let after : FollowState = record {
      config = i.config;
      opened = i.opened;
      receiving = c.end_open.new.epochs.items;
      known = i.known;
      queue = i.queue.waiting;
      turn = i.turn;
      ended = c.mark.new.flags.items;
      records = i.records;
      early = i.early;
      unqueued = i.unqueued;
      dropped = i.dropped;
      closed = i.closed;
      calls = i.calls + 1;
      reserved = reserved_in c.end_open.new.epochs.items i.spares.items (c.end_open.new.epochs.cap + i.spares.cap) i.queue.capacity c.mark.new.flags.cap;
    } in
    let was : FollowStands before h = subst (λ (s : FollowState). FollowStands s h) (sym c.self.view_is) st in
    let it = followed i.config h in
    let told = c.mark.ensures.flags ∙ ap (λ n. set i.ended.items n true) c.from.ensures ∙ flags_marked i.config.ingests c.args.ingest it.ended i.ended.items was.keeps.ended in
    stands_more before after h (Ends c.args.ingest) was refl refl
    (keeps_ended before it c.args.ingest c.end_open.new.epochs.items c.mark.new.flags.items (i.calls + 1) after.reserved was.keeps (c.end_open.ensures.stand _ was.keeps.receiving) told)

pub returns-clause-reserved : goal.returns-clause-reserved
returns-clause-reserved c =
    let i = c.self.inside in
    ap (λ n. n + rooms_of i.spares.items + (c.end_open.new.epochs.cap + i.spares.cap) + i.queue.capacity + 64 + c.mark.new.flags.cap) (same_rooms c.end_open.new.epochs.items i.epochs.items c.end_open.ensures.shapes)
    ∙ ap (λ n. rooms_of i.epochs.items + rooms_of i.spares.items + (n + i.spares.cap) + i.queue.capacity + 64 + c.mark.new.flags.cap) c.end_open.ensures.capacity
    ∙ ap (λ n. rooms_of i.epochs.items + rooms_of i.spares.items + (i.epochs.cap + i.spares.cap) + i.queue.capacity + 64 + n) c.mark.ensures.capacity
    ∙ ap (λ (s : FollowState). s.reserved) c.self.view_is
