use Rattle.std.proofs.Common.{◌≡◌, ◌+◌, ℕ, suc, true, take, sym, ap, subst, ◌∙◌}
use Rattle.tesla_base.specs.declared.release.Head.{Head}
use Rattle.tesla_fitting.specs.declared.config.Config.{Config}
use Rattle.tesla_follow.specs.declared.answers.FollowNext.{FollowNext}
use Rattle.tesla_follow.specs.declared.answers.FollowReply.{FollowReply}
use Rattle.tesla_follow.specs.declared.answers.FollowReply.TheVariants.{Released}
use Rattle.tesla_follow.specs.Followed.{Followed, after_next, next_of}
use Rattle.tesla_follow.specs.Kept.{reserved_in}
use Rattle.tesla_follow.specs.Stands.{FollowState, Keeps}
use Rattle.tesla_follow.proofs.Taken.{keeps_given}
use Rattle.tesla_follow.proofs.follower.Follower.give_released.Goals as goal

pub returns-clause-takes : goal.returns-clause-takes
returns-clause-takes c it k =
    let i = c.self.inside in
    let before : FollowState = record {
      config = i.config;
      opened = i.opened;
      receiving = i.epochs.items;
      known = i.known;
      queue = i.queue.waiting;
      turn = i.turn;
      ended = i.ended.items;
      records = i.records;
      early = i.early;
      unqueued = i.unqueued;
      dropped = i.dropped;
      closed = i.closed;
      calls = i.calls;
      reserved = reserved_in i.epochs.items i.spares.items (i.epochs.cap + i.spares.cap) i.queue.capacity i.ended.cap;
    } in
    let was : Keeps before it = subst (λ (s : FollowState). Keeps s it) (sym c.self.view_is) k in
    let given : Followed = record it { turn = true; records = suc it.records } in
    let mid = keeps_given before it i.calls before.reserved was in
    let into = c.args.into.now in
    let head = c.args.head in
    let payload = take head.length into in
    let next = c.hand_over-next.result in
    let next_is : next ≡ next_of it c.args.epoch payload = c.hand_over-next.ensures.next given mid ∙ ap (λ (n : ℕ). next_of it c.args.epoch (take n into)) c.from.ensures in
    let own : ℕ → FollowNext → FollowReply = λ n x. Released c.args.epoch (let at : Head = record { position = n; interval = head.interval; number = head.number; chain = head.chain; length = head.length } in at) payload x in
    let config : i.config ≡ c.args.self.now.config = ap (λ (s : FollowState). s.config) c.self.view_is in (
      ap (λ (n : ℕ). own n next) was.records ∙ ap (own it.records) next_is,
      subst (λ (cfg : Config). Keeps c.hand_over-next.new.self (after_next cfg given payload (next_of it c.args.epoch payload))) config
          (subst (λ (x : FollowNext). Keeps c.hand_over-next.new.self (after_next i.config given payload x)) next_is
          (subst (λ (n : ℕ). Keeps c.hand_over-next.new.self (after_next i.config given (take n into) next)) c.from.ensures (c.hand_over-next.ensures.keeps given mid))),
    )
