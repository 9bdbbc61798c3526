-- An arrival, told what the receiver of its epoch came to.
use Rattle.std.proofs.Common.{◌≡◌, ℕ, ◌+◌, ◌≤◌, true, List, [], ◌∷◌, ◌++◌, set, Option, Some, sym, ap, subst, ◌∙◌}
use Rattle.std.specs.Prelude.{slice_get}
use Rattle.tesla_fitting.specs.declared.config.Config.{Config}
use Rattle.tesla_fitting.specs.declared.verdict.Verdict.{Verdict}
use Rattle.tesla_frame.specs.Frame.{Frame}
use Rattle.tesla_frame.specs.Reading.{frame_of}
use Rattle.tesla_receiver.specs.Costs.{most_evaluations}
use Rattle.tesla_receiver.specs.History.{Arrives, arrivals_in, entry_of}
use Rattle.tesla_receiver.specs.Stands.{Stands}
use Rattle.tesla_receiver.specs.Entries.{Arrival, Entry}
use Rattle.tesla_receiver.specs.declared.history.Entry.TheVariants.{Arrived}
use Rattle.tesla_state.specs.State.{State}
use Rattle.tesla_rollover.specs.Epochs.{arrival_at, arrived_at, epoch_for, epoch_with, roll_entry_of}
use Rattle.tesla_rollover.specs.History.{RollArrived, RollEntry, config_at, configs_in, history_at}
use Rattle.tesla_rollover.specs.Kept.{configs_of}
use Rattle.tesla_rollover.specs.Stands.{RollState, RollStands}
use Rattle.tesla_rollover.specs.declared.epoch.Epoch.{Epoch}
use Rattle.tesla_rollover.proofs.InStep.{config_is, stand_at}
use Rattle.tesla_rollover.proofs.Moved.{roll_arrived}

-- what is so of an arrival of the epoch of a number: the receiver before it, its verdict, and the receiver after it
pub record ArrivesAt (old : RollState) (h : List RollEntry) (ingest reading : ℕ) (bytes : List ℕ) (epoch : ℕ) (verdict : Verdict) (before after : State) : Type 0 where
  pub number : epoch ≡ epoch_for old.config h bytes
  pub was : slice_get old.receivers epoch ≡ Some before
  pub answer : (history : List Entry) → Stands before history → Arrived (record { ingest = ingest; reading = reading; bytes = bytes; verdict = verdict }) ≡ entry_of before.config history (Arrives ingest reading bytes)
  pub stands : (history : List Entry) → Stands before history → Stands after (history ++ entry_of before.config history (Arrives ingest reading bytes) ∷ [])
  pub config : after.config ≡ before.config

arrival_same : (x y : Arrival) → ◌≡◌ {A = Entry} (Arrived x) (Arrived y) → x ≡ y
arrival_same x y same = cc

module _ (old : RollState) (h : List RollEntry) (ingest reading : ℕ) (bytes : List ℕ) (epoch : ℕ) (verdict : Verdict) (before after : State) (st : RollStands old h) (at : ArrivesAt old h ingest reading bytes epoch verdict before after) where
  config_before : before.config ≡ config_at old.config h epoch
  config_before = config_is old.config h old.receivers epoch before st.configs at.was

  stands_before : Stands before (history_at old.config.ingests h epoch)
  stands_before = stand_at old.config.ingests h old.receivers epoch before st.receivers at.was

  -- the entry, with the epoch and the verdict that are told
  pub entry_arrived : RollArrived epoch (record { ingest = ingest; reading = reading; bytes = bytes; verdict = verdict }) ≡ roll_entry_of old.config h true (Arrives ingest reading bytes)
  entry_arrived =
      ap (RollArrived epoch) (arrival_same _ (arrival_at (config_at old.config h epoch) (history_at old.config.ingests h epoch) ingest reading bytes)
      (at.answer (history_at old.config.ingests h epoch) stands_before ∙ ap (λ (c : Config). entry_of c (history_at old.config.ingests h epoch) (Arrives ingest reading bytes)) config_before))
      ∙ ap (λ (k : ℕ). arrived_at old.config h k ingest reading bytes) at.number

  pub stands_arrived : RollStands (record { config = old.config; receivers = set old.receivers epoch after; given = old.given; calls = old.calls + 1 }) (h ++ roll_entry_of old.config h true (Arrives ingest reading bytes) ∷ [])
  stands_arrived =
      subst (λ (k : ℕ). RollStands (record { config = old.config; receivers = set old.receivers k after; given = old.given; calls = old.calls + 1 }) (h ++ roll_entry_of old.config h true (Arrives ingest reading bytes) ∷ [])) (sym at.number)
      (roll_arrived old h ingest reading bytes before after st (subst (λ (k : ℕ). slice_get old.receivers k ≡ Some before) at.number at.was) at.config
      (subst (λ (k : ℕ). Stands after (history_at old.config.ingests h k ++ Arrived (arrival_at (config_at old.config h k) (history_at old.config.ingests h k) ingest reading bytes) ∷ [])) at.number
      (subst (λ (c : Config). Stands after (history_at old.config.ingests h epoch ++ entry_of c (history_at old.config.ingests h epoch) (Arrives ingest reading bytes) ∷ [])) config_before
      (at.stands (history_at old.config.ingests h epoch) stands_before))))

  -- a bound on the counted steps that is told of the receiver before is one of the epoch
  pub cost_arrived : (steps now : ℕ) → ((history : List Entry) → Stands before history → now ≤ steps + most_evaluations before.config (arrivals_in history) reading bytes)
      → now ≤ steps + most_evaluations (config_at old.config h epoch) (arrivals_in (history_at old.config.ingests h epoch)) reading bytes
  cost_arrived steps now cost =
      subst (λ (c : Config). now ≤ steps + most_evaluations c (arrivals_in (history_at old.config.ingests h epoch)) reading bytes) config_before (cost (history_at old.config.ingests h epoch) stands_before)

-- the number that is found is the epoch's
pub number_found : (cfg : Config) (h : List RollEntry) (bytes : List ℕ) (epochs : List Epoch) (read : Option Frame) (epoch : ℕ) → configs_of epochs ≡ configs_in cfg h → read ≡ frame_of bytes → epoch ≡ epoch_with (configs_of epochs) read → epoch ≡ epoch_for cfg h bytes
number_found cfg h bytes epochs read epoch same is found = found ∙ ap (λ (cs : List Config). epoch_with cs read) same ∙ ap (λ (f : Option Frame). epoch_with (configs_in cfg h) f) is
