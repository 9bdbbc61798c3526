use Rattle.std.proofs.Common.{sym, subst}
use Rattle.tesla_follow.specs.Giving.{IsEarlier}
use Rattle.tesla_follow.specs.Stands.{FollowState}
use Rattle.tesla_follow.proofs.follower.Follower.give_next.Goals as goal

pub give_asked-requires : goal.give_asked-requires
give_asked-requires c = subst (λ (s : FollowState). IsEarlier s) (sym (c.give_in_turn.ensures.none c.in-None.is)) c.requires
