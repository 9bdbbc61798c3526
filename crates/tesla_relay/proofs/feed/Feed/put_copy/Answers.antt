use Rattle.std.proofs.Common.{inl, refl}
use Rattle.tesla_relay.proofs.feed.Feed.put_copy.Goals as goal

pub returns-in-Ok-clause-offered : goal.returns-in-Ok-clause-offered
returns-in-Ok-clause-offered g c = inl (c.in-Ok.ensures.was_put _ _ refl)
