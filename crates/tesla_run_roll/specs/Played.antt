-- The history of epochs that a capture plays, and its records.
use Rattle.std.specs.Prelude.{◌≡◌, ℕ, Bool, true, false, not, ◌&&◌, Some, None, List, [], ◌∷◌, ◌++◌, map, ◌==◌, if◌then◌else◌, flat_map}
use Rattle.tesla_capture.specs.Capture.{Record}
use Rattle.tesla_capture.specs.Release.{marked_text}
use Rattle.tesla_base.specs.declared.release.Head.{Head}
use Rattle.tesla_fitting.specs.declared.config.Config.{Config}
use Rattle.tesla_replay.specs.Played.{event_in}
use Rattle.tesla_receiver.specs.History.{Takes}
use Rattle.tesla_rollover.specs.Epochs.{IsRollLegal, roll_entry_of}
use Rattle.tesla_rollover.specs.Events.{roll_after_events, roll_finished}
use Rattle.tesla_rollover.specs.History.{RollEntry, RollArrived, RollTaken, RollEnded}
use Rattle.tesla_rollover.specs.Replies.{RollReply, Gives, IsEmpty, IsOver, had_memory, reply_in}
use Rattle.tesla_state.specs.declared.replies.Reply.{Reply}
use Rattle.tesla_rollover.specs.declared.answers.Next.TheVariants.{NoMemory, Opened}

-- the history that the records of a capture play, with its end where the capture is whole
abbrev pub roll_played : Config → List Record → Bool → List RollEntry
roll_played cfg records true = roll_finished cfg (roll_after_events cfg [] (map event_in records))
roll_played cfg records false = roll_after_events cfg [] (map event_in records)

-- a take of releaser 0 found no memory for the epoch that it should have opened
abbrev pub wants_memory : RollEntry → Bool
wants_memory (RollTaken taker answers (Some next)) = taker == 0 && not (had_memory next)
wants_memory (RollTaken taker answers None) = false
wants_memory (RollArrived epoch arrival) = false
wants_memory (RollEnded ingest) = false

-- the release record of a packet that was given, behind one byte, the number of its epoch
abbrev pub roll_text_given : RollReply → List ℕ
roll_text_given (Gives epoch head payload next) = marked_text epoch head payload
roll_text_given IsEmpty = []
roll_text_given IsOver = []

abbrev pub roll_record_in : ℕ → RollEntry → List ℕ
roll_record_in releaser (RollArrived epoch arrival) = []
roll_record_in releaser (RollTaken taker answers next) = if taker == releaser then roll_text_given (reply_in (RollTaken taker answers next)) else []
roll_record_in releaser (RollEnded ingest) = []

-- the records of what a releaser's takes gave, in order
abbrev pub roll_records_of : ℕ → List RollEntry → List ℕ
roll_records_of releaser history = flat_map (roll_record_in releaser) history

-- of a history that a capture plays where there is memory, this much was played and written: up to a take that would have opened an epoch, and found no memory for it
pub record WantsMemory (cfg : Config) (played : List RollEntry) (written : List ℕ) : Type 0 where
  pub before : List RollEntry
  pub answers : List Reply
  pub rest : List RollEntry
  -- with memory the take opens an epoch
  pub opens : played ≡ before ++ RollTaken 0 answers (Some Opened) ∷ rest
  -- without it that is the one difference
  pub wanting : roll_entry_of cfg before false (Takes 0) ≡ RollTaken 0 answers (Some NoMemory)
  pub legal : IsRollLegal cfg (before ++ RollTaken 0 answers (Some NoMemory) ∷ [])
  -- it gave this packet, whose record is the last that is written
  pub epoch : ℕ
  pub head : Head
  pub payload : List ℕ
  pub gave : reply_in (RollTaken 0 answers (Some NoMemory)) ≡ Gives epoch head payload NoMemory
  pub text : written ≡ roll_records_of 0 before ++ marked_text epoch head payload
