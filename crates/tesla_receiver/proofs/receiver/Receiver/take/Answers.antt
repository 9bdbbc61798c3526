use Rattle.std.proofs.Common.{[], ◌∷◌, ◌++◌, sym, ap, ◌∙◌, subst}
use Rattle.tesla_receiver.specs.History.{Takes, entry_of}
use Rattle.tesla_state.specs.State.{State}
use Rattle.tesla_receiver.specs.Stands.{Stands}
use Rattle.tesla_state.specs.Steps.{after_take, reply_by}
use Rattle.tesla_receiver.proofs.Moved.{take_config, take_calls}
use Rattle.tesla_receiver.proofs.Takes.{reply_same, stands_took}
use Rattle.tesla_receiver.proofs.receiver.Receiver.take.Goals as goal

pub returns-clause-answer : goal.returns-clause-answer
returns-clause-answer c h st = c.take.ensures.answer ∙ ap reply_by (c.deref_mut.ensures.value ∙ c.self.view_is) ∙ sym (reply_same c.args.self.now h st)

pub returns-clause-stands : goal.returns-clause-stands
returns-clause-stands c h st =
    let moved = c.take.ensures.state ∙ ap after_take (c.deref_mut.ensures.value ∙ c.self.view_is) in
    subst (λ (s : State). Stands s (h ++ entry_of c.args.self.now.config h (Takes c.args.releaser) ∷ [])) (sym moved) (stands_took c.args.self.now h st c.args.releaser)

pub returns-clause-config : goal.returns-clause-config
returns-clause-config c = ap (λ (s : State). s.config) (c.take.ensures.state ∙ ap after_take (c.deref_mut.ensures.value ∙ c.self.view_is)) ∙ take_config c.args.self.now

pub returns-clause-calls : goal.returns-clause-calls
returns-clause-calls c = ap (λ (s : State). s.calls) (c.take.ensures.state ∙ ap after_take (c.deref_mut.ensures.value ∙ c.self.view_is)) ∙ take_calls c.args.self.now
