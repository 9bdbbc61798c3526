use Rattle.std.proofs.Common.{◌≡◌, ◌+◌, ◌<◌, ◌≤◌, ◌++◌, ◌∷◌, [], ℕ, Bool, List, Ok, length, sym, ap, subst, ◌∙◌, arith}
use Rattle.std.specs.List.{AllByRecursion}
use Rattle.tesla_base.specs.declared.names.StreamId.{StreamId}
use Rattle.tesla_early.specs.Learnt.{last_of}
use Rattle.tesla_fitting.specs.declared.config.Config.{Config}
use Rattle.tesla_state.specs.declared.report.Report.{Report}
use Rattle.tesla_follow.specs.Followed.{after_opening}
use Rattle.tesla_follow.specs.Kept.{IsAlike, IsFollowKept, reserved_in, rooms_of, set_count}
use Rattle.tesla_follow.specs.Stands.{EpochState, FollowState, Keeps}
use Rattle.tesla_follow.proofs.Opened.{begins_as, config_again, first_removed, keeps_again, kept_again, rooms_again}
use Rattle.tesla_follow.proofs.follower.Follower.open_again.Goals.{After-push_reserved}
use Rattle.tesla_follow.proofs.follower.Follower.open_again.Goals as goal

-- the oldest epoch, and the others
split : (c : After-push_reserved) → c.self.inside.epochs.items ≡ c.remove-epoch.result ∷ c.remove-epoch.new.self.items
split c =
    let some = c.self.invariant.some in
    let removed = c.remove-epoch in
    first_removed c.self.inside.epochs.items removed.new.self.items removed.result (omega (arith, some)) removed.ensures.value removed.ensures.by_index.2

pub invariant_of-self : goal.invariant_of-self
invariant_of-self c =
    let i = c.self.inside in
    let at = (goal.at.invariant_of-self c).After-push_reserved in
    let state = c.begin.new.self in
    let removed = c.remove-epoch in
    let fewer : i.opened < 4294967296 = subst (λ (s : FollowState). s.opened < 4294967296) (sym c.self.view_is) c.requires.fewer in
    let flagged : state.receiver.calls ≤ set_count i.ended.items = subst (λ (fs : List Bool). state.receiver.calls ≤ set_count fs) c.as_slice.ensures.value c.begin.ensures.calls in
    let kept = kept_again i.config i.epochs.items i.spares.items removed.new.self.items removed.result state c.args.setup i.epochs.cap i.spares.cap i.opened i.queue i.ended.items i.records i.early i.unqueued i.dropped c.from.result i.calls
    c.self.invariant (split at) fewer c.begin.ensures.config c.begin.ensures.most flagged (omega (arith, c.from.ensures)) in
    subst (λ (n : ℕ). IsFollowKept i.config c.push_reserved.new.self.items i.spares.items n i.spares.cap (i.opened + 1) i.queue i.ended.items i.records i.early i.unqueued (i.dropped + c.from.result) i.calls) (sym (c.push_reserved.ensures.capacity ∙ removed.ensures.capacity))
    (subst (λ (states : List EpochState). IsFollowKept i.config states i.spares.items i.epochs.cap i.spares.cap (i.opened + 1) i.queue i.ended.items i.records i.early i.unqueued (i.dropped + c.from.result) i.calls) (sym c.push_reserved.ensures.items) kept)

pub returns-clause-keeps : goal.returns-clause-keeps
returns-clause-keeps c it k =
    let i = c.self.inside in
    let at = (goal.at.returns-clause-keeps c).After-push_reserved in
    let before : FollowState = record {
      config = i.config;
      opened = i.opened;
      receiving = i.epochs.items;
      known = i.known;
      queue = i.queue.waiting;
      turn = i.turn;
      ended = i.ended.items;
      records = i.records;
      early = i.early;
      unqueued = i.unqueued;
      dropped = i.dropped;
      closed = i.closed;
      calls = i.calls;
      reserved = reserved_in i.epochs.items i.spares.items (i.epochs.cap + i.spares.cap) i.queue.capacity i.ended.cap;
    } in
    let was : Keeps before it = subst (λ (s : FollowState). Keeps s it) (sym c.self.view_is) k in
    let three : length i.epochs.items ≡ 3 = subst (λ (s : FollowState). length s.receiving ≡ 3) (sym c.self.view_is) c.requires.three in
    let removed = c.remove-epoch in
    let alike = subst (λ (ss : List EpochState). AllByRecursion (IsAlike i.config) ss) (split at) c.self.invariant.alike in
    let state = c.begin.new.self in
    let config = config_again i.config removed.result state c.args.setup alike.0 c.begin.ensures.config in
    let one = begins_as i.config it c.args.setup state c.as_slice.result.now config (c.as_slice.ensures.value ∙ was.ended) (c.begin.ensures.stands alike.0.1) in
    let reserved = reserved_in c.push_reserved.new.self.items i.spares.items (c.push_reserved.new.self.cap + i.spares.cap) i.queue.capacity i.ended.cap in
    let opened = keeps_again before it c.args.setup removed.result state removed.new.self.items c.stream.result c.report.result c.begin.result i.calls reserved was (split at) three one c.stream.ensures c.report.ensures c.begin.ensures.dropped in
    let after : List EpochState → List StreamId → ℕ → Report → FollowState = λ states known dropped closed. record {
      config = i.config;
      opened = i.opened + 1;
      receiving = states;
      known = known;
      queue = i.queue.waiting;
      turn = i.turn;
      ended = i.ended.items;
      records = i.records;
      early = i.early;
      unqueued = i.unqueued;
      dropped = dropped;
      closed = closed;
      calls = i.calls;
      reserved = reserved;
    } in
    let told = after_opening i.config it (Ok c.args.setup) in
    let others = removed.new.self.items ++ state ∷ [] in
    subst (λ (cfg : Config). Keeps (after c.push_reserved.new.self.items c.note.new.self (i.dropped + c.from.result) c.joined-self-inside.result) (after_opening cfg it (Ok c.args.setup))) (ap (λ (s : FollowState). s.config) c.self.view_is)
    (subst (λ (states : List EpochState). Keeps (after states c.note.new.self (i.dropped + c.from.result) c.joined-self-inside.result) told) (sym c.push_reserved.ensures.items)
    (subst (λ (known : List StreamId). Keeps (after others known (i.dropped + c.from.result) c.joined-self-inside.result) told) (sym c.note.ensures)
    (subst (λ (n : ℕ). Keeps (after others (last_of 64 (i.known ++ c.stream.result ∷ [])) (i.dropped + n) c.joined-self-inside.result) told) (sym c.from.ensures)
    (subst (λ (r : Report). Keeps (after others (last_of 64 (i.known ++ c.stream.result ∷ [])) (i.dropped + c.begin.result) r) told) (sym c.joined-self-inside.ensures) opened))))

pub returns-clause-reserved : goal.returns-clause-reserved
returns-clause-reserved c =
    let i = c.self.inside in
    let at = (goal.at.returns-clause-reserved c).After-push_reserved in
    let rooms : rooms_of c.push_reserved.new.self.items ≡ rooms_of i.epochs.items =
    ap rooms_of c.push_reserved.ensures.items ∙ rooms_again i.epochs.items c.remove-epoch.new.self.items c.remove-epoch.result c.begin.new.self (split at) c.begin.ensures.room in
    ap (λ n. n + rooms_of i.spares.items + (c.push_reserved.new.self.cap + i.spares.cap) + i.queue.capacity + 64 + i.ended.cap) rooms
    ∙ ap (λ n. rooms_of i.epochs.items + rooms_of i.spares.items + (n + i.spares.cap) + i.queue.capacity + 64 + i.ended.cap) (c.push_reserved.ensures.capacity ∙ c.remove-epoch.ensures.capacity)
    ∙ ap (λ (s : FollowState). s.reserved) c.self.view_is
