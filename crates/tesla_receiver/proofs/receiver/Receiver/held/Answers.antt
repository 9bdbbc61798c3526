use Rattle.std.proofs.Common.{ap, ◌∙◌, length}
use Rattle.tesla_state.specs.State.{State}
use Rattle.tesla_receiver.proofs.States.{held_number}
use Rattle.tesla_receiver.proofs.receiver.Receiver.held.Goals as goal

pub returns-clause-value : goal.returns-clause-value
returns-clause-value c h st = c.held.ensures.value ∙ ap (λ (s : State). length s.held) (c.deref.ensures ∙ c.self.view_is) ∙ held_number c.args.self.now h st
