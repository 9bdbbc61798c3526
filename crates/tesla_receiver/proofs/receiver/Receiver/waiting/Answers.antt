use Rattle.std.proofs.Common.{ap, ◌∙◌, length}
use Rattle.tesla_state.specs.State.{State}
use Rattle.tesla_receiver.proofs.States.{waiting_number}
use Rattle.tesla_receiver.proofs.receiver.Receiver.waiting.Goals as goal

pub returns-clause-value : goal.returns-clause-value
returns-clause-value c h st = c.from.ensures ∙ c.waiting.ensures ∙ ap (λ (s : State). length s.waiting) (c.deref.ensures ∙ c.self.view_is) ∙ waiting_number c.args.self.now h st
