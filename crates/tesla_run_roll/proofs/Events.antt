-- The history of epochs grows by events, each with its entry.
use Rattle.std.proofs.Common.{◌≡◌, ◌∙◌, true, List, [], ◌∷◌, ◌++◌, refl, sym, ap, subst}
use Rattle.tesla_fitting.specs.declared.config.Config.{Config}
use Rattle.tesla_receiver.specs.History.{Event}
use Rattle.tesla_rollover.specs.Epochs.{roll_entry_of}
use Rattle.tesla_rollover.specs.History.{RollEntry}
use Rattle.tesla_rollover.specs.Events.{roll_after_events}
use Rattle.tesla_rollover.specs.Stands.{RollState, RollStands}

-- events, one list after another
pub after_both : (cfg : Config) (h : List RollEntry) (first second : List Event) → roll_after_events cfg h (first ++ second) ≡ roll_after_events cfg (roll_after_events cfg h first) second
after_both cfg h [] second = refl
after_both cfg h (event ∷ first) second = after_both cfg (h ++ roll_entry_of cfg h true event ∷ []) first second

-- the epochs stand for the history with one event more
pub stands_on : (cfg other : Config) (es : List Event) (e event : Event) (state : RollState) → other ≡ cfg → event ≡ e
    → RollStands state (roll_after_events cfg [] es ++ roll_entry_of cfg (roll_after_events cfg [] es) true e ∷ []) → RollStands state (roll_after_events other [] (es ++ event ∷ []))
stands_on cfg other es e event state same is stands =
    subst (λ (h : List RollEntry). RollStands state h) (sym (after_both cfg [] es (e ∷ [])) ∙ ap (λ c. roll_after_events c [] (es ++ e ∷ [])) (sym same) ∙ ap (λ x. roll_after_events other [] (es ++ x ∷ [])) (sym is)) stands
