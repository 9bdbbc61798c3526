-- What is so of a legal history: where setups and given packets came from.
use Rattle.std.specs.Prelude.{◌≡◌, ◌≢◌, ◌≤◌, ◌<◌, ℕ, suc, List, [], ◌∷◌, ◌++◌, length, map, take, Some, None, slice_get}
use Rattle.tesla_base.specs.declared.release.Head.{Head}
use Rattle.tesla_fitting.specs.declared.config.Config.{Config}
use Rattle.tesla_receiver.specs.History.{arrivals_in, given_in, payload_of}
use Rattle.tesla_receiver.specs.Packets.{released}
use Rattle.tesla_receiver.specs.Entries.{Entry}
use Rattle.tesla_receiver.specs.declared.history.Entry.TheVariants.{Taken}
use Rattle.tesla_state.specs.Releases.{head_of}
use Rattle.tesla_state.specs.declared.replies.Reply.{Reply}
use Rattle.tesla_state.specs.declared.replies.Reply.TheVariants.{Given}
use Rattle.tesla_walks.specs.declared.release.Release.{Release}
use Rattle.tesla_rollover.specs.Epochs.{IsRollLegal}
use Rattle.tesla_rollover.specs.Handover.{setup_in}
use Rattle.tesla_rollover.specs.History.{RollEntry, RollEnded, RollTaken, config_at, epoch_count, history_at}
use Rattle.tesla_rollover.specs.Events.{roll_finished, roll_waiting_in}
use Rattle.tesla_rollover.specs.Replies.{IsOver, reply_in}
use Rattle.tesla_rollover.specs.declared.answers.Next.{Next}

-- the setup of the epoch after this one was handed over by a packet that this one gave, and it is of a stream of its own
pub record IsHandedOver (cfg : Config) (history : List RollEntry) (epoch : ℕ) : Type 0 where
  pub releaser : ℕ
  pub head : Head
  pub payload : List ℕ
  -- the place in this epoch's history of the take that gave the packet
  pub place : ℕ
  pub gave : slice_get (history_at cfg.ingests history epoch) place ≡ Some (Taken releaser (Given head payload))
  pub handed : setup_in payload ≡ (config_at cfg history (suc epoch)).setup ∷ []
  pub own : (earlier : ℕ) → earlier ≤ epoch → (config_at cfg history earlier).setup.stream.0 ≢ (config_at cfg history (suc epoch)).setup.stream.0

-- each setup after the first was handed over by a packet of the epoch before
abbrev pub SetupsAreHandedOver : Type 0
SetupsAreHandedOver = (cfg : Config) (h : List RollEntry) (epoch : ℕ) → IsRollLegal cfg h → suc epoch < epoch_count h → IsHandedOver cfg h epoch

-- the packet is the next one that is released of these entries and wasn't given in them
pub record IsNextReleased (cfg : Config) (before : List Entry) (head : Head) (payload : List ℕ) : Type 0 where
  pub release : Release
  pub next : slice_get (released cfg (arrivals_in before)) (given_in before) ≡ Some release
  pub payload_is : payload ≡ payload_of (slice_get (arrivals_in before) release.place)
  pub head_is : head ≡ head_of (given_in before) release payload

-- each packet that an epoch gives is released in the epoch's own history
abbrev pub GivenAreReleased : Type 0
GivenAreReleased =
    (cfg : Config) (h : List RollEntry) (epoch n releaser : ℕ) (head : Head) (payload : List ℕ) → IsRollLegal cfg h →
    slice_get (history_at cfg.ingests h epoch) n ≡ Some (Taken releaser (Given head payload)) →
    IsNextReleased (config_at cfg h epoch) (take n (history_at cfg.ingests h epoch)) head payload

-- a take of releaser 0 with these answers, of which the last gave a packet that came to this
abbrev pub roll_giving : List Reply × Next → RollEntry
roll_giving p = RollTaken 0 p.0 (Some p.1)

-- a finished history adds the end, a take that gives for each packet that waits in any epoch, and one in which every epoch is over
pub record RollFinishes (cfg : Config) (history : List RollEntry) : Type 0 where
  pub given : List (List Reply × Next)
  pub last : List Reply
  pub entries : roll_finished cfg history ≡ history ++ RollEnded 0 ∷ (map roll_giving given ++ RollTaken 0 last None ∷ [])
  pub count : length given ≡ roll_waiting_in cfg history
  pub over : reply_in (RollTaken 0 last None) ≡ IsOver
