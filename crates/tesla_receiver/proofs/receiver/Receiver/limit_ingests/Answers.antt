use Rattle.std.proofs.Common.{[], sym, ap, ◌∙◌, subst}
use Rattle.tesla_state.specs.State.{State}
use Rattle.tesla_receiver.specs.Stands.{Stands}
use Rattle.tesla_state.specs.Steps.{after_limit}
use Rattle.tesla_receiver.proofs.Ends.{limit_config, stands_limited}
use Rattle.tesla_receiver.proofs.receiver.Receiver.limit_ingests.Goals as goal

pub returns-clause-stands : goal.returns-clause-stands
returns-clause-stands c =
    let moved = c.limit_ingests.ensures.state ∙ ap (λ (s : State). after_limit s c.args.ingests) (c.deref_mut.ensures.value ∙ c.self.view_is) in
    subst (λ (s : State). Stands s []) (sym moved) (stands_limited c.args.self.now c.args.ingests c.requires.unused c.requires.within)

pub returns-clause-config : goal.returns-clause-config
returns-clause-config c =
    ap (λ (s : State). s.config) (c.limit_ingests.ensures.state ∙ ap (λ (s : State). after_limit s c.args.ingests) (c.deref_mut.ensures.value ∙ c.self.view_is)) ∙ limit_config c.args.self.now c.args.ingests
