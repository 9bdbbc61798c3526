-- What is told of the first entries of a history of epochs is a prefix of what all of them tell.
use Rattle.std.proofs.Common.{◌≡◌, ℕ, ◌<◌, List, [], ◌∷◌, ◌++◌, map, get_or, sym, ap, subst, ◌∙◌}
use Rattle.std.proofs.lemmas.List.{get_or_append_left, map-append}
use Rattle.std.proofs.lemmas.List.Concat.{flat_map-append}
use Rattle.tesla_commit.specs.Parts.{Parts}
use Rattle.tesla_fitting.specs.declared.config.Config.{Config}
use Rattle.tesla_receiver.specs.Entries.{Entry}
use Rattle.tesla_receiver.proofs.EachAfter.{each_after-append}
use Rattle.tesla_state.specs.Releases.{each_after}
use Rattle.tesla_rollover.specs.Epochs.{IsRollLegal, IsRollLegalAfter}
use Rattle.tesla_rollover.specs.History.{RollEntry, config_at, config_with, configs_in, entries_on, epoch_count, history_at, setup_opened, setups_opened}
use Rattle.tesla_rollover.proofs.Legal.{configs_count}

legal_after_prefix : (cfg : Config) (before h more : List RollEntry) → IsRollLegalAfter cfg before (h ++ more) → IsRollLegalAfter cfg before h
legal_after_prefix cfg before [] more l = tt
legal_after_prefix cfg before (e ∷ h) more l = (l.0, legal_after_prefix cfg (before ++ e ∷ []) h more l.1)

-- a prefix of a legal history is legal
pub roll_legal_prefix : (cfg : Config) (h more : List RollEntry) → IsRollLegal cfg (h ++ more) → IsRollLegal cfg h
roll_legal_prefix cfg h more l = legal_after_prefix cfg [] h more l

-- each epoch's history only grows
pub history_grows : (ingests : ℕ) (h more : List RollEntry) (epoch : ℕ) → (rest : List Entry) × (history_at ingests (h ++ more) epoch ≡ history_at ingests h epoch ++ rest)
unfolding history_at
history_grows ingests h more epoch = (each_after (entries_on ingests epoch) h more, each_after-append (entries_on ingests epoch) [] h more)

configs_both : (cfg : Config) (h more : List RollEntry) → configs_in cfg (h ++ more) ≡ configs_in cfg h ++ map (config_with cfg) (setups_opened more)
configs_both cfg h more =
    ap (λ (ps : List Parts). cfg ∷ map (config_with cfg) ps) (flat_map-append setup_opened h more)
    ∙ ap (λ (cs : List Config). cfg ∷ cs) (map-append (config_with cfg) (setups_opened h) (setups_opened more))

-- the epochs that are open keep their numbers and configurations
pub configs_grow : (cfg : Config) (h more : List RollEntry) → (rest : List Config) × (configs_in cfg (h ++ more) ≡ configs_in cfg h ++ rest)
configs_grow cfg h more = (map (config_with cfg) (setups_opened more), configs_both cfg h more)

pub config_stays : (cfg : Config) (h more : List RollEntry) (epoch : ℕ) → epoch < epoch_count h → config_at cfg (h ++ more) epoch ≡ config_at cfg h epoch
config_stays cfg h more epoch there =
    ap (λ (cs : List Config). get_or cs epoch cfg) (configs_both cfg h more)
    ∙ get_or_append_left (configs_in cfg h) (map (config_with cfg) (setups_opened more)) cfg epoch (subst (λ (n : ℕ). epoch < n) (sym (configs_count cfg h)) there)
