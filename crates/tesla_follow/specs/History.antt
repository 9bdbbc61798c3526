-- Histories of a follower: calls with their answers, which compute from the events.
use Rattle.std.specs.Prelude.{◌≡◌, ℕ, ◌+◌, List, [], ◌∷◌, ◌++◌, get_or}
use Rattle.std.specs.List.{fold}
use Rattle.tesla_fitting.specs.declared.config.Config.{Config}
use Rattle.tesla_receiver.specs.History.{Event, Arrives, Takes, Ends}
use Rattle.tesla_receiver.specs.declared.history.Arrival as arrivals
use Rattle.tesla_receiver.specs.declared.history.Entry as entries
use Rattle.tesla_receiver.specs.declared.history.Entry.TheVariants.{Arrived, Taken, Ended}
use Rattle.tesla_follow.specs.Followed.{Followed, FollowedEpoch, acceptance_in, after_arrival, after_end, answer_with, arrival_in, no_epoch, nothing_followed, oldest, open_epochs, place_for, takes_one}
use Rattle.tesla_follow.specs.declared.answers.FollowReply.{FollowReply}
use Rattle.tesla_follow.specs.declared.answers.FollowVerdict.{FollowVerdict}

-- a call with its answer
abbrev pub FollowEntry : Type 0
FollowEntry = entries.Entry FollowVerdict FollowReply

abbrev pub FollowArrival : Type 0
FollowArrival = arrivals.Arrival FollowVerdict

-- the event of an entry, without its answer
abbrev pub event_of : FollowEntry → Event
event_of (Arrived arrival) = Arrives arrival.ingest arrival.reading arrival.bytes
event_of (Taken releaser reply) = Takes releaser
event_of (Ended ingest) = Ends ingest

-- ---- one event

-- the epoch at a place among those that are open
abbrev pub epoch_at : Config → Followed → ℕ → FollowedEpoch
epoch_at cfg it place = get_or (open_epochs it) place (no_epoch cfg)

-- the entry of an event, after this was made
abbrev pub entry_of : Config → Followed → Event → FollowEntry
entry_of cfg it (Arrives ingest reading bytes) =
    let place = place_for it bytes in
    let epoch = epoch_at cfg it place in
    let arrival = arrival_in epoch ingest reading bytes in
    Arrived (record { ingest = ingest; reading = reading; bytes = bytes; verdict = answer_with (oldest it + place) (acceptance_in cfg it epoch arrival) arrival })
entry_of cfg it (Takes releaser) = Taken releaser (takes_one cfg it releaser).reply
entry_of cfg it (Ends ingest) = Ended ingest

-- what was made once an event has happened
abbrev pub after_event : Config → Followed → Event → Followed
after_event cfg it (Arrives ingest reading bytes) =
    let place = place_for it bytes in
    let epoch = epoch_at cfg it place in
    let arrival = arrival_in epoch ingest reading bytes in
    after_arrival it place epoch (acceptance_in cfg it epoch arrival) arrival
after_event cfg it (Takes releaser) = (takes_one cfg it releaser).after
after_event cfg it (Ends ingest) = after_end it ingest

-- ---- a whole history

-- what the events of a history made
unfoldable pub followed : Config → List FollowEntry → Followed
followed cfg history = fold (λ it entry. after_event cfg it (event_of entry)) (nothing_followed cfg) history

-- each answer is the one answer, after the entries before it
abbrev pub IsFollowedAfter : Config → List FollowEntry → List FollowEntry → Type 0
IsFollowedAfter cfg before [] = Unit {0}
IsFollowedAfter cfg before (entry ∷ entries) =
    (entry ≡ entry_of cfg (followed cfg before) (event_of entry)) × IsFollowedAfter cfg (before ++ entry ∷ []) entries

-- a followed history
abbrev pub IsFollowed : Config → List FollowEntry → Type 0
IsFollowed cfg history = IsFollowedAfter cfg [] history
