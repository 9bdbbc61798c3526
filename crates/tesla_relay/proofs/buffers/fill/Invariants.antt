use Rattle.std.proofs.Common.{◌≡◌}
use Rattle.crossbeam_queue.specs.Passes.{view, IsSamePass}
use Rattle.tesla_relay.specs.Buffers.{tally}
use Rattle.tesla_relay.proofs.buffers.fill.Given as goal

abbrev pub invariant-loop-place : goal.invariant-loop-place
invariant-loop-place l = record {
  pass : IsSamePass l.initial.pass l.pass;
  given : view l.pass ≡ tally 0 l.place;
}
