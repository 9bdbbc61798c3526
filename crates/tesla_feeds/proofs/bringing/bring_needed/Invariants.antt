use Rattle.std.proofs.Common.{◌≤◌, vec_len}
use Rattle.tesla_feeds.specs.Later.{BringsMore}
use Rattle.tesla_feeds.proofs.bringing.bring_needed.Given as goal

abbrev pub invariant-loop-feeds : goal.invariant-loop-feeds
invariant-loop-feeds g l = record {
  brings : BringsMore g.Y.LaterSenders.is_right l.initial.feeds l.feeds (g.Y.LaterSenders.left l.initial.later) (g.Y.LaterSenders.left l.later);
  no_more : vec_len l.feeds.later ≤ vec_len l.initial.feeds.later;
}

abbrev pub decreases-loop-feeds : goal.decreases-loop-feeds
decreases-loop-feeds g l = vec_len l.feeds.later
