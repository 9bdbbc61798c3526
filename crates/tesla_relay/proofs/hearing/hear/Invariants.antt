use Rattle.std.proofs.Common.{◌≡◌, ℕ, length, map, true}
use Rattle.tesla_relay.specs.Lists.{HaveCome}
use Rattle.tesla_relay.specs.Offers.{HaveOffered}
use Rattle.tesla_relay.proofs.HeardSoFar.{HeardSoFar}
use Rattle.tesla_relay.proofs.hearing.hear.Given as goal

abbrev pub invariant-loop : goal.invariant-loop
invariant-loop g l = record {
  size : length l.buffer ≡ 2048;
  heard : HeardSoFar g.W.Serve.basis (g.K.Link.left l.initial.link) (g.K.Link.left l.link) l.initial.feeds l.feeds (map g.W.Serve.seen l.initial.here) (map g.W.Serve.seen l.here);
  numbered : (number : ℕ) × (g.K.Link.has_brought l.link number ≡ true) × HaveCome number l.feeds × ((capacity : ℕ) → HaveOffered (g.Q.PostQueues.was_put g.K.Link.brought) (g.Q.PostQueues.was_full g.K.Link.brought) capacity 0 l.initial.feeds → HaveOffered (g.Q.PostQueues.was_put g.K.Link.brought) (g.Q.PostQueues.was_full g.K.Link.brought) capacity number l.feeds);
  faults : g.K.Link.faults l.link ≡ g.K.Link.faults l.initial.link;
  name : g.K.Link.name l.link ≡ g.K.Link.name l.initial.link;
}
