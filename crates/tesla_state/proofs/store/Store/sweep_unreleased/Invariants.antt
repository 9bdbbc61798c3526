use Rattle.std.proofs.Common.{true}
use Rattle.std.specs.List.{list_all}
use Rattle.tesla_fitting.specs.Config.{chains}
use Rattle.tesla_state.specs.Steps.{is_over}
use Rattle.tesla_state.proofs.Sweeping.{Sweeping}
use Rattle.tesla_state.proofs.store.Store.sweep_unreleased.Given as goal

abbrev pub invariant-loop-looked : goal.invariant-loop-looked
invariant-loop-looked l = Sweeping l.initial.self l.self true l.interval (λ x. list_all (is_over l.tips x.holding) (chains l.config)) l._looked l.next
