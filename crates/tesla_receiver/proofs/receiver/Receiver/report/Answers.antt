use Rattle.std.proofs.Common.{ap, subst, ◌∙◌}
use Rattle.tesla_state.specs.Kept.{CountsWithin}
use Rattle.tesla_state.specs.State.{State}
use Rattle.tesla_receiver.proofs.receiver.Receiver.report.Goals as goal

pub returns-clause-value : goal.returns-clause-value
returns-clause-value c h st = c.report.ensures.value ∙ ap (λ (s : State). s.counts) (c.deref.ensures ∙ c.self.view_is) ∙ st.counts

pub returns-clause-few : goal.returns-clause-few
returns-clause-few c = subst (λ (s : State). CountsWithin s.calls c.report.result) (c.deref.ensures ∙ c.self.view_is) c.report.ensures.few
