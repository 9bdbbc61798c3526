use Rattle.std.proofs.Common.{[], ◌∙◌, sym, subst}
use Rattle.tesla_state.specs.State.{State}
use Rattle.tesla_receiver.specs.Stands.{Stands}
use Rattle.tesla_receiver.proofs.Ends.{stands_opened}
use Rattle.tesla_receiver.proofs.receiver.Receiver.open.Goals as goal

pub returns-clause-stands : goal.returns-clause-stands
returns-clause-stands c = subst (λ (s : State). Stands s []) (sym (c.in_ok-new.ensures.ok ∙ c.in_ok-state.ensures)) (stands_opened _ _)
