-- What a follower is told and answers, from its events. Of the epochs of a feed the newest three are open; each has its
-- promises, and messages that were accepted on arrival wait.
use Rattle.std.specs.Prelude.{ℕ, suc, ◌+◌, ◌-◌, ◌^◌, Bool, true, false, not, List, [], ◌∷◌, ◌++◌, length, map, filter, drop, take, Option, Some, None, Result, Ok, Err, nat_lt, ◌==◌, if◌then◌else◌}
use Rattle.std.specs.List.{list_all, list_any, range_with_len}
use Rattle.tesla_base.specs.declared.release.Head.{Head}
use Rattle.tesla_commit.specs.Equal.{first_equal}
use Rattle.tesla_commit.specs.Parsing.{judged}
use Rattle.tesla_commit.specs.Parts.{Parts}
use Rattle.tesla_commit.specs.declared.refusal.SetupKind.{SetupKind}
use Rattle.tesla_early.specs.Early.{Message, candidate, is_early}
use Rattle.tesla_early.specs.Learnt.{last_of}
use Rattle.tesla_fitting.specs.declared.config.Config.{Config}
use Rattle.tesla_frame.specs.Reading.{frame_of}
use Rattle.tesla_receiver.specs.Answer.{verdict_of}
use Rattle.tesla_receiver.specs.Entries.{Arrival, Entry}
use Rattle.tesla_receiver.specs.History.{arrivals_in, given_in, reply_to}
use Rattle.tesla_receiver.specs.declared.history.Entry.TheVariants.{Arrived, Taken, Ended}
use Rattle.tesla_receiver.specs.Undelivered.{undelivered_in}
use Rattle.tesla_rollover.specs.Epochs.{epoch_with, has_stream, up_to_given}
use Rattle.tesla_rollover.specs.Handover.{handover_text}
use Rattle.tesla_rollover.specs.History.{config_with}
use Rattle.tesla_rollover.specs.Replies.{is_over}
use Rattle.tesla_state.specs.declared.replies.Reply.{Reply}
use Rattle.tesla_state.specs.declared.replies.Reply.TheVariants as replies
use Rattle.tesla_follow.specs.declared.answers.Acceptance.{Acceptance}
use Rattle.tesla_follow.specs.declared.answers.Acceptance.TheVariants as acceptances
use Rattle.tesla_follow.specs.declared.answers.FollowNext.{FollowNext}
use Rattle.tesla_follow.specs.declared.answers.FollowNext.TheVariants.{Plain, Old, EpochsSpent, BadSetup, EqualCommitments, UsedStream, Opened}
use Rattle.tesla_follow.specs.declared.answers.FollowReply.{FollowReply}
use Rattle.tesla_follow.specs.declared.answers.FollowReply.TheVariants.{Released, Early, Empty, Over}
use Rattle.tesla_follow.specs.declared.answers.FollowVerdict.{FollowVerdict}

-- ---- limits

-- how many epochs are open at most
abbrev pub most_open : ℕ
most_open = 3

-- how many epochs' streams may not come back: those that are open, and the last 64 that were closed
abbrev pub most_known : ℕ
most_known = 67

-- how many epochs there are at most
abbrev pub most_numbered : ℕ
most_numbered = 2 ^ 32

-- how many promises of an epoch count
abbrev pub most_promises : ℕ
most_promises = 4096

-- ---- what was made of events

-- an epoch: the configuration of its receiver, and that one's history
pub record FollowedEpoch : Type 0 where
  pub config : Config
  pub history : List Entry
  -- the same history as far as it teaches promises: a message that would have been accepted and found no place is as if it hadn't come
  pub teaching : List Entry

-- a message that was accepted on arrival, and its epoch
pub record Accepted : Type 0 where
  pub epoch : ℕ
  pub message : Message

-- all that events made
pub record Followed : Type 0 where
  -- the epochs in the order in which they were opened: the newest three are open, and of the others nothing changes
  pub epochs : List FollowedEpoch
  -- the messages that were accepted and not yet given, in order
  pub queue : List Accepted
  -- the next take gives one of these, if there is one, and the take behind that a released packet, if there is one
  pub turn : Bool
  -- the ingests that ended, in order
  pub ended : List ℕ
  -- how many records were given, how many of them of messages that were accepted, and how many promised messages found no place
  pub records : ℕ
  pub early : ℕ
  pub unqueued : ℕ
  -- how many packets were held, and not given, in epochs when these were closed
  pub dropped : ℕ

abbrev pub config_of : FollowedEpoch → Config
config_of epoch = epoch.config

abbrev pub history_of : FollowedEpoch → List Entry
history_of epoch = epoch.history

-- nothing has happened: the epoch of the trusted setup is open
abbrev pub nothing_followed : Config → Followed
nothing_followed cfg = record {
  epochs = record { config = cfg; history = []; teaching = [] } ∷ [];
  queue = [];
  turn = true;
  ended = [];
  records = 0;
  early = 0;
  unqueued = 0;
  dropped = 0;
}

-- ---- the epochs that are open

-- the number of the oldest of them
abbrev pub oldest : Followed → ℕ
oldest it = length it.epochs - most_open

abbrev pub open_epochs : Followed → List FollowedEpoch
open_epochs it = drop (oldest it) it.epochs

abbrev pub no_epoch : Config → FollowedEpoch
no_epoch cfg = record { config = cfg; history = []; teaching = [] }

-- with a change of the epochs that are open
abbrev pub with_open : Followed → List FollowedEpoch → List FollowedEpoch
with_open it changed = take (oldest it) it.epochs ++ changed

-- ---- an arrival

-- the place among the open epochs of the one that a datagram goes to: that of its frame's stream, and the oldest where there is none or it isn't a frame
abbrev pub place_for : Followed → List ℕ → ℕ
place_for it bytes = epoch_with (map config_of (open_epochs it)) (frame_of bytes)

abbrev pub arrival_in : FollowedEpoch → ℕ → ℕ → List ℕ → Arrival
arrival_in epoch ingest reading bytes =
    record { ingest = ingest; reading = reading; bytes = bytes; verdict = verdict_of epoch.config (arrivals_in epoch.history) (given_in epoch.history) ingest reading bytes }

-- what becomes of an arrival's message, told whether it was promised and whether a place is left
abbrev pub acceptance_with : Bool → Bool → Acceptance
acceptance_with promised room = if promised then (if room then acceptances.Queued else acceptances.Unqueued) else acceptances.Unpromised

abbrev pub has_room : Config → Followed → Bool
has_room cfg it = nat_lt (length it.queue) cfg.capacity

abbrev pub acceptance_in : Config → Followed → FollowedEpoch → Arrival → Acceptance
acceptance_in cfg it epoch arrival = acceptance_with (is_early most_promises epoch.teaching arrival) (has_room cfg it)

-- what an arrival teaches with its message
abbrev pub taught : Acceptance → Arrival → Entry
taught acceptances.Unpromised arrival = Arrived arrival
taught acceptances.Queued arrival = Arrived arrival
taught acceptances.Unqueued arrival = Ended 0

abbrev pub arrived_in : FollowedEpoch → Acceptance → Arrival → FollowedEpoch
arrived_in epoch acceptance arrival = record {
  config = epoch.config;
  history = epoch.history ++ Arrived arrival ∷ [];
  teaching = epoch.teaching ++ taught acceptance arrival ∷ [];
}

abbrev pub queued_of : ℕ → Option Message → List Accepted
queued_of epoch (Some message) = record { epoch = epoch; message = message } ∷ []
queued_of epoch None = []

-- what an arrival adds to the queue
abbrev pub queued_by : ℕ → Acceptance → Arrival → List Accepted
queued_by epoch acceptances.Unpromised arrival = []
queued_by epoch acceptances.Queued arrival = queued_of epoch (candidate arrival)
queued_by epoch acceptances.Unqueued arrival = []

abbrev pub unqueued_by : Acceptance → ℕ
unqueued_by acceptances.Unpromised = 0
unqueued_by acceptances.Queued = 0
unqueued_by acceptances.Unqueued = 1

-- a list with one element changed
abbrev pub changed_at : {A : Type 0} → ℕ → A → List A → List A
changed_at place x xs = take place xs ++ x ∷ drop (suc place) xs

abbrev pub after_arrival : Followed → ℕ → FollowedEpoch → Acceptance → Arrival → Followed
after_arrival it place epoch acceptance arrival = record it {
  epochs = with_open it (changed_at place (arrived_in epoch acceptance arrival) (open_epochs it));
  queue = it.queue ++ queued_by (oldest it + place) acceptance arrival;
  unqueued = it.unqueued + unqueued_by acceptance;
}

abbrev pub answer_with : ℕ → Acceptance → Arrival → FollowVerdict
answer_with epoch acceptance arrival = record { epoch = epoch; verdict = arrival.verdict; acceptance = acceptance }

-- ---- a take

-- the answers of the open epochs that are asked: from the oldest on, up to the first that gives a packet
abbrev pub replies_in : Followed → List Reply
replies_in it = up_to_given (map (λ (epoch : FollowedEpoch). reply_to epoch.config epoch.history) (open_epochs it))

abbrev pub asked_with : ℕ → Reply → FollowedEpoch → FollowedEpoch
asked_with releaser reply epoch = record {
  config = epoch.config;
  history = epoch.history ++ Taken releaser reply ∷ [];
  teaching = epoch.teaching ++ Taken releaser reply ∷ [];
}

-- the open epochs once those that were asked gave these answers
abbrev pub asked_all : ℕ → List Reply → List FollowedEpoch → List FollowedEpoch
asked_all releaser [] epochs = epochs
asked_all releaser (reply ∷ replies) [] = []
asked_all releaser (reply ∷ replies) (epoch ∷ epochs) = asked_with releaser reply epoch ∷ asked_all releaser replies epochs

abbrev pub after_asking : Followed → ℕ → Followed
after_asking it releaser = record it { epochs = with_open it (asked_all releaser (replies_in it) (open_epochs it)) }

-- ---- what a payload came to

-- the stream of a setup is that of an epoch that is open, or of one of the last that were closed
abbrev pub is_known : Followed → Parts → Bool
is_known it setup = list_any (λ (epoch : FollowedEpoch). has_stream setup.stream epoch.config) (last_of most_known it.epochs)

abbrev pub next_of_setup : Followed → Parts → Option ℕ → FollowNext
next_of_setup it setup (Some chain) = EqualCommitments chain
next_of_setup it setup None = if is_known it setup then UsedStream setup.stream else Opened

abbrev pub next_judged : Followed → Result Parts (ℕ × SetupKind) → FollowNext
next_judged it (Err refused) = BadSetup refused.0 refused.1
next_judged it (Ok setup) = next_of_setup it setup (first_equal setup.rows)

-- what a packet of an epoch came to: only the newest hands over, by a text that spells a setup of which no two commitments are equal, to a stream that isn't known
abbrev pub next_spelled : Followed → ℕ → Option (List ℕ) → FollowNext
next_spelled it epoch None = Plain
next_spelled it epoch (Some text) =
    if not (suc epoch == length it.epochs) then Old (length it.epochs - 1)
    else (if length it.epochs == most_numbered then EpochsSpent
    else next_judged it (judged text))

abbrev pub next_of : Followed → ℕ → List ℕ → FollowNext
next_of it epoch payload = next_spelled it epoch (handover_text payload)

-- ---- an opening

-- the ends that an epoch begins with: one for each ingest that has ended, in the order of the ingests
abbrev pub ends_before : Config → Followed → List Entry
ends_before cfg it = map (λ (ingest : ℕ). Ended ingest) (filter (λ (ingest : ℕ). list_any (λ (other : ℕ). other == ingest) it.ended) (range_with_len 0 cfg.ingests))

abbrev pub epoch_of : Config → Followed → Parts → FollowedEpoch
epoch_of cfg it setup = record { config = config_with cfg setup; history = ends_before cfg it; teaching = ends_before cfg it }

-- how many packets are held and weren't given in the epoch that is closed, if one is
abbrev pub dropped_of : List FollowedEpoch → ℕ
dropped_of [] = 0
dropped_of (epoch ∷ epochs) = if length epochs == most_open - 1 then undelivered_in epoch.config epoch.history else 0

-- the next epoch was opened, of this setup; where three are open the oldest is closed
abbrev pub after_opening : Config → Followed → Result Parts (ℕ × SetupKind) → Followed
after_opening cfg it (Err refused) = it
after_opening cfg it (Ok setup) = record it { epochs = it.epochs ++ epoch_of cfg it setup ∷ []; dropped = it.dropped + dropped_of (open_epochs it) }

abbrev pub after_text : Config → Followed → Option (List ℕ) → Followed
after_text cfg it None = it
after_text cfg it (Some text) = after_opening cfg it (judged text)

abbrev pub after_next : Config → Followed → List ℕ → FollowNext → Followed
after_next cfg it payload Opened = after_text cfg it (handover_text payload)
after_next cfg it payload Plain = it
after_next cfg it payload (Old newest) = it
after_next cfg it payload EpochsSpent = it
after_next cfg it payload (BadSetup line kind) = it
after_next cfg it payload (EqualCommitments chain) = it
after_next cfg it payload (UsedStream stream) = it

-- ---- the answer to a take, and what it makes

-- a record's head, whose position counts the records of all epochs
abbrev pub head_at : ℕ → Head → Head
head_at records head = record { position = records; interval = head.interval; number = head.number; chain = head.chain; length = head.length }

-- the head of the record of a message that was accepted on arrival: no chain proved it
abbrev pub early_head : ℕ → Message → Head
early_head records message = record { position = records; interval = message.name.interval; number = message.name.number; chain = 255; length = length message.payload }

-- the first message of the queue is given
abbrev pub reply_early : Followed → Accepted → FollowReply
reply_early it accepted = Early accepted.epoch (early_head it.records accepted.message) accepted.message.payload

abbrev pub after_early : Followed → List Accepted → Followed
after_early it others = record it { queue = others; turn = false; records = suc it.records; early = suc it.early }

-- what a take answers and makes
pub record TakesOne : Type 0 where
  pub reply : FollowReply
  pub after : Followed

abbrev pub gives_early : Followed → Accepted → List Accepted → TakesOne
gives_early it accepted others = record { reply = reply_early it accepted; after = after_early it others }

-- no epoch gave a packet, told the answers of all
abbrev pub gives_none : Followed → List Reply → List Accepted → TakesOne
gives_none it answers [] = record { reply = if list_all is_over answers then Over else Empty; after = it }
gives_none it answers (accepted ∷ others) = gives_early it accepted others

-- an epoch gave a packet
abbrev pub gives_released : Config → Followed → ℕ → Head → List ℕ → TakesOne
gives_released cfg it epoch head payload =
    let next = next_of it epoch payload in
    record {
      reply = Released epoch (head_at it.records head) payload next;
      after = let given = record it { turn = true; records = suc it.records } in after_next cfg given payload next;
    }

-- the answers of the epochs from this number on
abbrev pub gives_asked : Config → Followed → List Reply → ℕ → List Reply → TakesOne
gives_asked cfg it all epoch [] = gives_none it all it.queue
gives_asked cfg it all epoch (replies.Given head payload ∷ others) = gives_released cfg it epoch head payload
gives_asked cfg it all epoch (replies.Empty ∷ others) = gives_asked cfg it all (suc epoch) others
gives_asked cfg it all epoch (replies.Over ∷ others) = gives_asked cfg it all (suc epoch) others

abbrev pub takes_released : Config → Followed → ℕ → TakesOne
takes_released cfg it releaser = gives_asked cfg (after_asking it releaser) (replies_in it) (oldest it) (replies_in it)

-- whose turn it is, where a message waits in the queue
abbrev pub takes_in_turn : Config → Followed → ℕ → Bool → List Accepted → TakesOne
takes_in_turn cfg it releaser turn [] = takes_released cfg it releaser
takes_in_turn cfg it releaser true (accepted ∷ others) = gives_early it accepted others
takes_in_turn cfg it releaser false (accepted ∷ others) = takes_released cfg it releaser

abbrev pub takes_one : Config → Followed → ℕ → TakesOne
takes_one cfg it releaser = takes_in_turn cfg it releaser it.turn it.queue

-- ---- an end

abbrev pub ended_in : ℕ → FollowedEpoch → FollowedEpoch
ended_in ingest epoch = record {
  config = epoch.config;
  history = epoch.history ++ Ended ingest ∷ [];
  teaching = epoch.teaching ++ Ended ingest ∷ [];
}

abbrev pub after_end : Followed → ℕ → Followed
after_end it ingest = record it { epochs = with_open it (map (ended_in ingest) (open_epochs it)); ended = it.ended ++ ingest ∷ [] }
