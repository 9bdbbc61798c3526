-- What is so of every followed history: where setups and accepted messages came from.
use Rattle.std.specs.Prelude.{◌≡◌, ◌<◌, ℕ, suc, true, List, [], ◌∷◌, Some, slice_get, get_or, take, ◌==◌, if◌then◌else◌}
use Rattle.tesla_base.specs.declared.release.Head.{Head}
use Rattle.tesla_early.specs.Early.{Message, candidate, is_early, message_of}
use Rattle.tesla_early.specs.Laws.{Gave, IsReleased}
use Rattle.tesla_early.specs.Payloads.{promise_for, promise_of}
use Rattle.tesla_fitting.specs.declared.config.Config.{Config}
use Rattle.tesla_receiver.specs.Entries.{Arrival, Entry}
use Rattle.tesla_receiver.specs.declared.history.Entry.TheVariants.{Arrived, Taken, Ended}
use Rattle.tesla_state.specs.declared.replies.Reply.{Reply}
use Rattle.tesla_state.specs.declared.replies.Reply.TheVariants as replies
use Rattle.tesla_rollover.specs.Handover.{setup_in}
use Rattle.tesla_follow.specs.declared.answers.FollowReply.{FollowReply}
use Rattle.tesla_follow.specs.declared.answers.FollowReply.TheVariants.{Released, Early, Empty, Over}
use Rattle.tesla_follow.specs.Followed.{Accepted, FollowedEpoch, head_at, most_promises, no_epoch}
use Rattle.tesla_follow.specs.History.{FollowEntry, followed}
use Rattle.tesla_follow.specs.Kept.{waits_by}

-- the epoch of a number
abbrev pub epoch_numbered : Config → List FollowEntry → ℕ → FollowedEpoch
epoch_numbered cfg history number = get_or (followed cfg history).epochs number (no_epoch cfg)

-- ---- setups

-- an epoch gave a packet that hands over to the setup of the next one
pub record HandsOver (epoch next : FollowedEpoch) : Type 0 where
  pub releaser : ℕ
  pub head : Head
  pub payload : List ℕ
  -- the place in the epoch's history of the take that gave the packet
  pub place : ℕ
  pub gave : slice_get epoch.history place ≡ Some (Taken releaser (replies.Given head payload))
  pub handed : setup_in payload ≡ next.config.setup ∷ []

-- the setup of the epoch after this one was handed over by a packet that this one gave
abbrev pub IsHandedOver : Config → List FollowEntry → ℕ → Type 0
IsHandedOver cfg history epoch = HandsOver (epoch_numbered cfg history epoch) (epoch_numbered cfg history (suc epoch))

-- ---- packets

-- what is told of a packet that is given, but for how many records were before it
pub record Told : Type 0 where
  pub head : Head
  pub payload : List ℕ

-- the packet that an entry of an epoch gave
abbrev pub given_by : Entry → List Told
given_by (Arrived arrival) = []
given_by (Taken releaser (replies.Given head payload)) = record { head = head_at 0 head; payload = payload } ∷ []
given_by (Taken releaser replies.Empty) = []
given_by (Taken releaser replies.Over) = []
given_by (Ended ingest) = []

-- the packet that an entry told as one of the epoch of this number
abbrev pub told_of : ℕ → FollowEntry → List Told
told_of number (Arrived arrival) = []
told_of number (Taken releaser (Released epoch head payload next)) = if epoch == number then record { head = head_at 0 head; payload = payload } ∷ [] else []
told_of number (Taken releaser (Early epoch head payload)) = []
told_of number (Taken releaser Empty) = []
told_of number (Taken releaser Over) = []
told_of number (Ended ingest) = []

-- ---- accepted messages

-- the message of an arrival that an epoch accepted: it is early behind what the epoch was taught before
pub record WasAccepted (epoch : FollowedEpoch) (place : ℕ) (message : Message) : Type 0 where
  pub arrival : Arrival
  -- it stands at this place of the epoch's history, and of what taught promises
  pub arrived : slice_get epoch.history place ≡ Some (Arrived arrival)
  pub teaches : slice_get epoch.teaching place ≡ Some (Arrived arrival)
  pub early : is_early most_promises (take place epoch.teaching) arrival ≡ true
  pub candidate_is : candidate arrival ≡ Some message

-- the promise of a message that an epoch accepted at this place goes back, through messages that it accepted, to a packet that it gave
pub data ReachesGiven (epoch : FollowedEpoch) : ℕ → Message → Type 0 where
  -- it stands in the payload of a packet that the epoch gave before, which was the next of those released
  FromPacket : (place : ℕ) (message : Message) (giver : ℕ) (payload : List ℕ) → giver < place → Gave epoch.history giver payload → IsReleased epoch.config epoch.history giver payload
      → promise_of payload ≡ Some (promise_for message.name message.payload) → ReachesGiven epoch place message
  -- it stands in the payload of a message that was accepted before, whose own promise does
  FromMessage : (place : ℕ) (message : Message) (earlier : ℕ) (before : Message) → earlier < place → WasAccepted epoch earlier before
      → promise_of before.payload ≡ Some (promise_for message.name message.payload) → ReachesGiven epoch earlier before → ReachesGiven epoch place message

-- a message that an epoch accepted on arrival, and its promise goes back to a packet that the epoch gave
pub record IsPromised (epoch : FollowedEpoch) (message : Message) : Type 0 where
  pub place : ℕ
  pub was : WasAccepted epoch place message
  pub reaches : ReachesGiven epoch place message

-- the message of a record
abbrev pub message_at : Head → List ℕ → Message
message_at head payload = record { name = record { interval = head.interval; number = head.number }; payload = payload }

-- the message that an entry accepted, with its epoch
abbrev pub accepted_by : FollowEntry → List Accepted
accepted_by (Arrived arrival) = waits_by arrival.verdict.epoch arrival.verdict.acceptance (message_of arrival.bytes)
accepted_by (Taken releaser reply) = []
accepted_by (Ended ingest) = []

-- the message that an entry gave as one that was accepted, with its epoch
abbrev pub given_early : FollowEntry → List Accepted
given_early (Arrived arrival) = []
given_early (Taken releaser (Early epoch head payload)) = record { epoch = epoch; message = message_at head payload } ∷ []
given_early (Taken releaser (Released epoch head payload next)) = []
given_early (Taken releaser Empty) = []
given_early (Taken releaser Over) = []
given_early (Ended ingest) = []

-- ---- one epoch

-- the reply, without the number of its epoch and what became of its payload
abbrev pub reply_in_one : FollowReply → Reply
reply_in_one (Released epoch head payload next) = replies.Given head payload
reply_in_one (Early epoch head payload) = replies.Given head payload
reply_in_one Empty = replies.Empty
reply_in_one Over = replies.Over

-- the entry of a receiver that an entry of a follower is where one epoch was opened and no message was given early
abbrev pub entry_in_one : FollowEntry → Entry
entry_in_one (Arrived arrival) = Arrived (record { ingest = arrival.ingest; reading = arrival.reading; bytes = arrival.bytes; verdict = arrival.verdict.verdict })
entry_in_one (Taken releaser reply) = Taken releaser (reply_in_one reply)
entry_in_one (Ended ingest) = Ended ingest
