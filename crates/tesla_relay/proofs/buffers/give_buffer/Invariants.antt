use Rattle.std.proofs.Common.{◌≡◌}
use Rattle.crossbeam_queue.specs.Passes.{view}
use Rattle.tesla_relay.proofs.buffers.give_buffer.Given as goal

-- it was not given yet
abbrev pub invariant-loop : goal.invariant-loop
invariant-loop g l = record {
  store : l.free.store ≡ l.initial.free.store;
  none : view l.free.pass ≡ view l.initial.free.pass;
}
