-- A receiver that is played events.
use Rattle.std.proofs.Common.{◌≡◌, ◌∙◌, List, [], ◌∷◌, ◌++◌, sym, ap, subst}
use Rattle.tesla_fitting.specs.declared.config.Config.{Config}
use Rattle.tesla_receiver.specs.Entries.{Entry}
use Rattle.tesla_receiver.specs.History.{Event, entry_of}
use Rattle.tesla_state.specs.State.{State}
use Rattle.tesla_receiver.specs.Stands.{Stands}
use Rattle.tesla_receiver.specs.Events.{after_events}

-- it stands for the history with one event more
pub stands_on : (cfg other : Config) (es : List Event) (e event : Event) (state : State) → other ≡ cfg → event ≡ e → after_events cfg [] (es ++ e ∷ []) ≡ after_events cfg [] es ++ entry_of cfg (after_events cfg [] es) e ∷ [] → Stands state (after_events cfg [] es ++ entry_of cfg (after_events cfg [] es) e ∷ []) → Stands state (after_events other [] (es ++ event ∷ []))
stands_on cfg other es e event state same is one stands =
    subst (λ (h : List Entry). Stands state h) (sym one ∙ ap (λ c. after_events c [] (es ++ e ∷ [])) (sym same) ∙ ap (λ x. after_events other [] (es ++ x ∷ [])) (sym is)) stands
