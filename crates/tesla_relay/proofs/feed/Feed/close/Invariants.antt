use Rattle.std.proofs.Common.{◌≡◌}
use Rattle.crossbeam_queue.specs.Passes.{view, IsSamePass}
use Rattle.tesla_relay.proofs.feed.Feed.close.Given as goal

-- nothing was put in yet
abbrev pub invariant-loop : goal.invariant-loop
invariant-loop g l = record {
  line : l.self.line ≡ l.initial.self.line;
  capacity : l.self.capacity ≡ l.initial.self.capacity;
  came : l.self.came ≡ l.initial.self.came;
  dropped : l.self.dropped ≡ l.initial.self.dropped;
  post : l.self.post ≡ l.initial.self.post;
  pass : IsSamePass l.initial.self.pass l.self.pass;
  known : view l.self.pass ≡ view l.initial.self.pass;
}
