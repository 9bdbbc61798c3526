-- What a receiver stands for, by an equal configuration.
use Rattle.std.proofs.Common.{◌≡◌, ℕ, List, [], ◌∷◌, ◌++◌, ◌∙◌, subst}
use Rattle.tesla_fitting.specs.declared.config.Config.{Config}
use Rattle.tesla_receiver.specs.Entries.{Entry}
use Rattle.tesla_receiver.specs.History.{Takes, entry_of}
use Rattle.tesla_receiver.specs.Stands.{Stands}
use Rattle.tesla_state.specs.State.{State}

pub taken_stands : (before now : State) (config : Config) (h : List Entry) (releaser : ℕ) → before.config ≡ config → now.config ≡ before.config
    → Stands now (h ++ entry_of before.config h (Takes releaser) ∷ []) → (now.config ≡ config) × Stands now (h ++ entry_of config h (Takes releaser) ∷ [])
taken_stands before now config h releaser same kept stands = (kept ∙ same, subst (λ (it : Config). Stands now (h ++ entry_of it h (Takes releaser) ∷ [])) same stands)
