use Rattle.std.proofs.Common.{◌+◌, ◌++◌, ◌∷◌, [], sym, ap, subst}
use Rattle.tesla_receiver.specs.History.{Takes}
use Rattle.tesla_fitting.specs.declared.config.Config.{Config}
use Rattle.tesla_follow.specs.History.{entry_of, followed}
use Rattle.tesla_follow.specs.Kept.{reserved_in}
use Rattle.tesla_follow.specs.Stands.{FollowStands, FollowState}
use Rattle.tesla_follow.proofs.Histories.{stands_more}
use Rattle.tesla_follow.proofs.Taken.{keeps_called}
use Rattle.tesla_follow.proofs.follower.Follower.take.Goals as goal

pub returns-clause-stands : goal.returns-clause-stands
returns-clause-stands c h st =
    let i = c.self.inside in
    let before : FollowState = record {
      config = i.config;
      opened = i.opened;
      receiving = i.epochs.items;
      known = i.known;
      queue = i.queue.waiting;
      turn = i.turn;
      ended = i.ended.items;
      records = i.records;
      early = i.early;
      unqueued = i.unqueued;
      dropped = i.dropped;
      closed = i.closed;
      calls = i.calls;
      reserved = reserved_in i.epochs.items i.spares.items (i.epochs.cap + i.spares.cap) i.queue.capacity i.ended.cap;
    } in
    let was : FollowStands before h = subst (λ (s : FollowState). FollowStands s h) (sym c.self.view_is) st in
    let it = followed i.config h in
    let taken = c.give_next.ensures.takes it (keeps_called before it (i.calls + 1) before.reserved was.keeps) in
    let moved : FollowStands c.give_next.new.self (h ++ entry_of i.config it (Takes c.args.releaser) ∷ []) =
    stands_more before c.give_next.new.self h (Takes c.args.releaser) was c.give_next.ensures.config c.give_next.ensures.calls taken.1 in
    subst (λ (cfg : Config). FollowStands c.give_next.new.self (h ++ entry_of cfg (followed cfg h) (Takes c.args.releaser) ∷ [])) (ap (λ (s : FollowState). s.config) c.self.view_is) moved
