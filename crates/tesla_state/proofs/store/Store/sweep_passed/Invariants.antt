use Rattle.std.proofs.Common.{false}
use Rattle.std.specs.Prelude.{not}
use Rattle.tesla_state.specs.Stored.{waits}
use Rattle.tesla_state.proofs.Sweeping.{Sweeping}
use Rattle.tesla_state.proofs.store.Store.sweep_passed.Given as goal

abbrev pub invariant-loop-looked : goal.invariant-loop-looked
invariant-loop-looked l = Sweeping l.initial.self l.self false l.interval (λ x. not (waits x)) l._looked l.next
