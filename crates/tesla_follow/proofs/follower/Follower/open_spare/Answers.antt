use Rattle.std.proofs.Common.{◌+◌, ◌<◌, List, Ok, length, sym, ap, subst, ◌∙◌, arith}
use Rattle.std.specs.List.{AllByRecursion}
use Rattle.tesla_fitting.specs.declared.config.Config.{Config}
use Rattle.tesla_follow.specs.Followed.{after_opening}
use Rattle.tesla_follow.specs.Kept.{IsAlike, reserved_in}
use Rattle.tesla_follow.specs.Stands.{EpochState, FollowState, Keeps}
use Rattle.tesla_follow.proofs.Opened.{begins_as, config_again, first_removed, keeps_spare}
use Rattle.tesla_follow.proofs.follower.Follower.open_spare.Goals.{After-push_reserved}
use Rattle.tesla_follow.proofs.follower.Follower.open_spare.Goals as goal

pub returns-clause-keeps : goal.returns-clause-keeps
returns-clause-keeps c it k =
    let i = c.self.inside in
    let before : FollowState = record {
      config = i.config;
      opened = i.opened;
      receiving = i.epochs.items;
      known = i.known;
      queue = i.queue.waiting;
      turn = i.turn;
      ended = i.ended.items;
      records = i.records;
      early = i.early;
      unqueued = i.unqueued;
      dropped = i.dropped;
      closed = i.closed;
      calls = i.calls;
      reserved = reserved_in i.epochs.items i.spares.items (i.epochs.cap + i.spares.cap) i.queue.capacity i.ended.cap;
    } in
    let was : Keeps before it = subst (λ (s : FollowState). Keeps s it) (sym c.self.view_is) k in
    let few : length i.epochs.items < 3 = subst (λ (s : FollowState). length s.receiving < 3) (sym c.self.view_is) c.requires.few in
    let removed = c.remove-epoch in
    let all = c.self.invariant.all in
    let split = first_removed i.spares.items removed.new.self.items removed.result (omega (arith, few, all)) removed.ensures.value removed.ensures.by_index.2 in
    let alike = subst (λ (ss : List EpochState). AllByRecursion (IsAlike i.config) ss) split c.self.invariant.spare in
    let state = c.begin.new.self in
    let config = config_again i.config removed.result state c.args.setup alike.0 c.begin.ensures.config in
    let one = begins_as i.config it c.args.setup state c.as_slice.result.now config (c.as_slice.ensures.value ∙ was.ended) (c.begin.ensures.stands alike.0.1) in
    let reserved = reserved_in c.push_reserved.new.self.items removed.new.self.items (c.push_reserved.new.self.cap + removed.new.self.cap) i.queue.capacity i.ended.cap in
    let opened = keeps_spare before it c.args.setup state i.calls reserved was few one in
    let after : List EpochState → FollowState = λ states. record {
      config = i.config;
      opened = i.opened + 1;
      receiving = states;
      known = i.known;
      queue = i.queue.waiting;
      turn = i.turn;
      ended = i.ended.items;
      records = i.records;
      early = i.early;
      unqueued = i.unqueued;
      dropped = i.dropped;
      closed = i.closed;
      calls = i.calls;
      reserved = reserved;
    } in
    subst (λ (cfg : Config). Keeps (after c.push_reserved.new.self.items) (after_opening cfg it (Ok c.args.setup))) (ap (λ (s : FollowState). s.config) c.self.view_is)
    (subst (λ (states : List EpochState). Keeps (after states) (after_opening i.config it (Ok c.args.setup))) (sym c.push_reserved.ensures.items) opened)
