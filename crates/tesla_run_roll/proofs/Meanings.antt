-- What a capture comes to by the rule of the epochs is what it comes to by the history that it plays.
use Rattle.std.proofs.Common.{◌≡◌, ◌∙◌, ℕ, suc, true, List, [], ◌∷◌, ◌++◌, replicate, refl, sym, ap, subst, append-nil}
use Rattle.std.proofs.lemmas.List.Concat.{flat_map-append}
use Rattle.tesla_capture.specs.Capture.{Record}
use Rattle.tesla_capture.specs.Outline.{outline_of}
use Rattle.tesla_commit.specs.Parts.{Parts}
use Rattle.tesla_fitting.specs.declared.config.Config.{Config}
use Rattle.tesla_receiver.specs.History.{Event, Takes, Ends}
use Rattle.tesla_convert.specs.Meaning.{SaysSame}
use Rattle.tesla_rollover.specs.Epochs.{roll_entry_of}
use Rattle.tesla_rollover.specs.Events.{roll_after_events, roll_waiting_in}
use Rattle.tesla_rollover.specs.History.{RollEntry}
use Rattle.tesla_run_replay.specs.Arguments.{PlayedArguments}
use Rattle.tesla_run_replay.specs.Playing.{events_in, meaning_by, with_end}
use Rattle.tesla_run_replay.specs.Under.{config_of}
use Rattle.tesla_run_replay.proofs.Histories.{history_same, says_histories, text_is}
use Rattle.tesla_run_roll.specs.Played.{WantsMemory, roll_played, roll_record_in, roll_records_of}
use Rattle.tesla_run_roll.specs.Roll.{epochs_by, history_of, meaning, roll_rule}
use Rattle.tesla_run_roll.proofs.Events.{after_both}
use Rattle.tesla_run_roll.proofs.Wanting.{wanting_is}

-- the records with one entry more
records_more : (h : List RollEntry) (e : RollEntry) → roll_records_of 0 (h ++ e ∷ []) ≡ roll_records_of 0 h ++ roll_record_in 0 e
records_more h e = flat_map-append (roll_record_in 0) h (e ∷ []) ∙ ap (λ r. roll_records_of 0 h ++ r) (append-nil (roll_record_in 0 e))

says_rolled : (cfg : Config) → SaysSame (meaning_by true (roll_rule cfg)) (meaning cfg)
says_rolled cfg =
    let one : (events : List Event) (event : Event) → roll_after_events cfg [] (events ++ event ∷ []) ≡ roll_after_events cfg [] events ++ roll_entry_of cfg (roll_after_events cfg [] events) true event ∷ [] =
    λ events event. after_both cfg [] events (event ∷ []) in
    let whole : (records : List Record) → roll_after_events cfg [] (with_end (roll_rule cfg) (events_in records)) ≡ roll_played cfg records true =
    λ records. after_both cfg [] (events_in records) (Ends 0 ∷ replicate (suc (roll_waiting_in cfg (roll_after_events cfg [] (events_in records)))) (Takes 0)) in
    says_histories (epochs_by cfg) one (roll_records_of 0) refl records_more (roll_played cfg) (λ records. refl) whole true (Unit {0}) (λ bytes written. WantsMemory cfg (history_of cfg bytes) written) (λ e. tt) (λ bytes written wants.
    wanting_is cfg _ _ written wants.0 (history_same (epochs_by cfg) one (roll_records_of 0) refl records_more (roll_played cfg) (λ records. refl) whole (outline_of bytes).fault (outline_of bytes).records)
    (text_is (epochs_by cfg) one (roll_records_of 0) refl records_more) records_more wants.1 wants.2)

-- what is said by the rule of epochs of which one interval may fill one is said by their histories
pub says_same : (arguments : PlayedArguments) (setup : Parts) (other : Config) → arguments.limits.quota ≡ arguments.limits.capacity
    → other ≡ record { setup = setup; lag = arguments.lag; capacity = arguments.limits.capacity; quota = arguments.limits.capacity; ingests = 1 } → SaysSame (meaning_by true (roll_rule other)) (meaning (config_of arguments setup))
says_same arguments setup other whole same =
    let config : ℕ → Config = λ quota. record { setup = setup; lag = arguments.lag; capacity = arguments.limits.capacity; quota = quota; ingests = 1 } in
    subst (λ (c : Config). SaysSame (meaning_by true (roll_rule c)) (meaning (config_of arguments setup))) (ap config whole ∙ sym same) (says_rolled (config_of arguments setup))
