use Rattle.std.proofs.Common.{[], ◌∷◌, ◌++◌, sym, ap, ◌∙◌, subst}
use Rattle.tesla_receiver.specs.History.{Ends, entry_of}
use Rattle.tesla_state.specs.State.{State}
use Rattle.tesla_receiver.specs.Stands.{Stands}
use Rattle.tesla_state.specs.Steps.{after_end}
use Rattle.tesla_receiver.proofs.Ends.{stands_ended}
use Rattle.tesla_receiver.proofs.Moved.{end_config, end_calls}
use Rattle.tesla_receiver.proofs.receiver.Receiver.end.Goals as goal

pub returns-clause-stands : goal.returns-clause-stands
returns-clause-stands c h st =
    let moved = c.end.ensures.state ∙ ap (λ (s : State). after_end s c.args.ingest) (c.deref_mut.ensures.value ∙ c.self.view_is) in
    subst (λ (s : State). Stands s (h ++ entry_of c.args.self.now.config h (Ends c.args.ingest) ∷ [])) (sym moved) (stands_ended c.args.self.now h st c.args.ingest)

pub returns-clause-config : goal.returns-clause-config
returns-clause-config c =
    ap (λ (s : State). s.config) (c.end.ensures.state ∙ ap (λ (s : State). after_end s c.args.ingest) (c.deref_mut.ensures.value ∙ c.self.view_is)) ∙ end_config c.args.self.now c.args.ingest

pub returns-clause-calls : goal.returns-clause-calls
returns-clause-calls c =
    ap (λ (s : State). s.calls) (c.end.ensures.state ∙ ap (λ (s : State). after_end s c.args.ingest) (c.deref_mut.ensures.value ∙ c.self.view_is)) ∙ end_calls c.args.self.now c.args.ingest
