use Rattle.tesla_state.proofs.ReleasedPackets.{Settling}
use Rattle.tesla_state.proofs.store.Store.release_all.Given as goal

abbrev pub invariant-loop-proved : goal.invariant-loop-proved
invariant-loop-proved l = Settling l.initial.self l.self l.batch l.proved-index
