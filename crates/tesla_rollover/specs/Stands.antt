-- What is kept of a history of epochs: what each receiver keeps.
use Rattle.std.specs.Prelude.{◌≡◌, ℕ, List, [], ◌∷◌, length, map}
use Rattle.std.specs.List.{range_with_len}
use Rattle.tesla_fitting.specs.declared.config.Config.{Config}
use Rattle.tesla_receiver.specs.Stands.{Stands}
use Rattle.tesla_receiver.specs.Entries.{Entry}
use Rattle.tesla_state.specs.State.{State}
use Rattle.tesla_rollover.specs.Epochs.{IsRollLegal}
use Rattle.tesla_rollover.specs.History.{RollEntry, configs_in, epoch_count, history_at, roll_given_in}

-- what a contract sees of the epochs' receivers
pub record RollState : Type 0 where
  -- the configuration of the first epoch; each later one has it with its own setup
  pub config : Config
  -- the epochs' receivers, in the order in which they were opened
  pub receivers : List State
  -- how many packets were given
  pub given : ℕ
  pub calls : ℕ

-- for how many entries the tables of a receiver have room
abbrev pub room_of : State → ℕ
room_of state = state.reserved

-- for how many entries the tables of each epoch's receiver have room, in order
abbrev pub rooms_in : RollState → List ℕ
rooms_in state = map room_of state.receivers

-- each receiver stands for its history
abbrev pub StandAll : List State → List (List Entry) → Type 0
StandAll [] [] = Unit {0}
StandAll [] (history ∷ histories) = ⊥
StandAll (state ∷ states) [] = ⊥
StandAll (state ∷ states) (history ∷ histories) = Stands state history × StandAll states histories

abbrev pub config_in : State → Config
config_in state = state.config

-- the histories of the epochs' receivers, in order
abbrev pub histories_in : ℕ → List RollEntry → List (List Entry)
histories_in ingests history = map (history_at ingests history) (range_with_len 0 (epoch_count history))

-- the history is legal, and each receiver has the configuration of its epoch and stands for the epoch's part of the history
pub record RollStands (state : RollState) (history : List RollEntry) : Type 0 where
  pub legal : IsRollLegal state.config history
  pub configs : map config_in state.receivers ≡ configs_in state.config history
  pub receivers : StandAll state.receivers (histories_in state.config.ingests history)
  pub given : state.given ≡ roll_given_in history
  pub calls : state.calls ≡ length history
