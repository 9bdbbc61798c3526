-- What a feed over a list of streams makes of what comes. These are the calls of each stream, the frames of all, and why messages are refused.
use Rattle.std.specs.Prelude.{ℕ, ◌+◌, Bool, true, not, ◌&&◌, List, [], ◌∷◌, ◌++◌, length, nat_lt, Option, Some, None, Result, Ok, Err, if◌then◌else◌}
use Rattle.std.specs.List.{fold}
use Rattle.tesla_base.specs.declared.names.Name.{Name}
use Rattle.tesla_commit.specs.Parts.{Parts}
use Rattle.tesla_desk.specs.declared.link.Letter.TheVariants as letters
use Rattle.tesla_sender.specs.Made.{Call, Message, Disclose, Stream, interval_at}
use Rattle.tesla_sender.specs.declared.refusal.SendRefusal.{SendRefusal}
use Rattle.tesla_feed.specs.Fed.{Event, Received, Rested, Feeding, datagrams_from, first_interval, has_ended, is_due, is_unread, name_from, nothing_fed}
use Rattle.tesla_feeds.specs.Order.{greatest_delay, handover_to, is_in_window}

-- ---- streams

-- a stream of the list while it is fed: the first interval in which calls are made of it, the setup of the stream that comes next, the calls that were made of it, and the interval of its last handover, 0 where there is none
pub record Part : Type 0 where
  pub stream : Stream
  pub first : ℕ
  pub next : Option Parts
  pub log : List Call
  pub handed : ℕ

-- the interval of a reading
abbrev pub interval_of_part : Part → ℕ → ℕ
interval_of_part part reading = interval_at part.stream.setup.times reading

-- the last interval of a stream has ended by a reading
abbrev pub is_past : Part → ℕ → Bool
is_past part reading = nat_lt part.stream.setup.times.last (interval_of_part part reading)

-- a stream is on at a reading, told which streams are behind it, where all in front are past: it isn't, or is the last one
abbrev pub is_on : ℕ → Part → List Part → Bool
is_on reading part [] = true
is_on reading part (next ∷ parts) = not (is_past part reading)

-- ---- what is done with one stream

-- the stream afterwards, the calls that were made of it, their frames, and why messages were refused
pub record Done : Type 0 where
  pub part : Part
  pub calls : List Call
  pub frames : List (List ℕ)
  pub refused : List SendRefusal

-- nothing
abbrev pub nothing_done : Part → Done
nothing_done part = record { part = part; calls = []; frames = []; refused = [] }

-- a call was made: its frame is that of the stream after the calls before it
abbrev pub with_call : Part → Call → Part
with_call part call = record { stream = part.stream; first = part.first; next = part.next; log = part.log ++ call ∷ []; handed = part.handed }

abbrev pub call_done : Part → Call → Done
call_done part call = record {
  part = with_call part call;
  calls = call ∷ [];
  frames = datagrams_from part.stream part.log (call ∷ []);
  refused = [];
}

-- a message is judged by the log of the stream, and is sent or refused
abbrev pub said_as : Part → ℕ → List ℕ → Result Name SendRefusal → Done
said_as part reading payload (Ok name) = call_done part (Message reading payload)
said_as part reading payload (Err refusal) = record { part = part; calls = []; frames = []; refused = refusal ∷ [] }

abbrev pub said : ℕ → List ℕ → Part → Done
said reading payload part =
    said_as part reading payload (name_from part.stream.setup.times part.first part.log reading payload)

-- a disclosure is made where one is due
abbrev pub disclosed : ℕ → Part → Done
disclosed reading part =
    if is_due part.stream part.first part.log reading then call_done part (Disclose reading) else nothing_done part

-- a handover was made at a reading
abbrev pub handover_done : Part → Call → ℕ → Done
handover_done part call interval = record {
  part = record { stream = part.stream; first = part.first; next = part.next; log = part.log ++ call ∷ []; handed = interval };
  calls = call ∷ [];
  frames = datagrams_from part.stream part.log (call ∷ []);
  refused = [];
}

-- one that the sender would refuse isn't made
abbrev pub handed_as : Part → ℕ → List ℕ → Result Name SendRefusal → Done
handed_as part reading payload (Ok name) = handover_done part (Message reading payload) (interval_of_part part reading)
handed_as part reading payload (Err refusal) = nothing_done part

-- the reading is in an interval of the window, and no handover was made in it or behind it
abbrev pub may_hand_over : Part → Parts → ℕ → Bool
may_hand_over part next reading =
    let interval = interval_of_part part reading in
    let setup = part.stream.setup in
    nat_lt part.handed interval && is_in_window setup.times (greatest_delay setup) next.times interval

abbrev pub handed_to : ℕ → Part → Option Parts → Done
handed_to reading part None = nothing_done part
handed_to reading part (Some next) =
    if may_hand_over part next reading
    then handed_as part reading (handover_to next) (name_from part.stream.setup.times part.first part.log reading (handover_to next))
    else nothing_done part

-- a handover to the next stream is made where one is due
abbrev pub handed_over : ℕ → Part → Done
handed_over reading part = handed_to reading part part.next

-- ---- what is done with all

-- the streams afterwards, the calls that were made, their frames and the refusals, in order
pub record AllDone : Type 0 where
  pub parts : List Part
  pub calls : List Call
  pub frames : List (List ℕ)
  pub refused : List SendRefusal

abbrev pub none_done : AllDone
none_done = record { parts = []; calls = []; frames = []; refused = [] }

-- this was done with a stream, and nothing with those behind it
abbrev pub one_done : Done → List Part → AllDone
one_done done parts = record { parts = done.part ∷ parts; calls = done.calls; frames = done.frames; refused = done.refused }

-- nothing was done with a stream, and this with those behind it
abbrev pub done_behind : Part → AllDone → AllDone
done_behind part all = record { parts = part ∷ all.parts; calls = all.calls; frames = all.frames; refused = all.refused }

-- this was done with a stream, and that with those behind it
abbrev pub both_done : Done → AllDone → AllDone
both_done done all = record {
  parts = done.part ∷ all.parts;
  calls = done.calls ++ all.calls;
  frames = done.frames ++ all.frames;
  refused = done.refused ++ all.refused;
}

-- with the stream that is on
abbrev pub done_on : (Part → Done) → ℕ → List Part → AllDone
done_on act reading [] = none_done
done_on act reading (part ∷ parts) =
    if is_on reading part parts then one_done (act part) parts else done_behind part (done_on act reading parts)

-- with every stream
abbrev pub done_each : (Part → Done) → List Part → AllDone
done_each act [] = none_done
done_each act (part ∷ parts) = both_done (act part) (done_each act parts)

-- ---- one event

-- what was made: of each stream; the frames of all calls, in order; the calls but for handovers, why messages were refused, and how many came while the clock couldn't be read; and how many handovers
pub record Fed : Type 0 where
  pub parts : List Part
  pub frames : List (List ℕ)
  pub whole : Feeding
  pub handovers : ℕ

abbrev pub with_handovers : Fed → AllDone → Fed
with_handovers fed done = record {
  parts = done.parts;
  frames = fed.frames ++ done.frames;
  whole = fed.whole;
  handovers = fed.handovers + length done.calls;
}

abbrev pub with_done : Fed → AllDone → Fed
with_done fed done = record {
  parts = done.parts;
  frames = fed.frames ++ done.frames;
  whole = record {
    log = fed.whole.log ++ done.calls;
    refused = fed.whole.refused ++ done.refused;
    unread = fed.whole.unread;
  };
  handovers = fed.handovers;
}

abbrev pub with_unread : Fed → Fed
with_unread fed = record {
  parts = fed.parts;
  frames = fed.frames;
  whole = record { log = fed.whole.log; refused = fed.whole.refused; unread = fed.whole.unread + 1 };
  handovers = fed.handovers;
}

-- a handover is due of the stream that is on
abbrev pub after_handover : ℕ → Fed → Fed
after_handover reading fed = with_handovers fed (done_on (handed_over reading) reading fed.parts)

-- a message of the stream that is on, where one came
abbrev pub after_message : ℕ → Option (List ℕ) → Fed → Fed
after_message reading None fed = fed
after_message reading (Some payload) fed = with_done fed (done_on (said reading payload) reading fed.parts)

-- disclosures are due, of every stream
abbrev pub after_keys : ℕ → Fed → Fed
after_keys reading fed = with_done fed (done_each (disclosed reading) fed.parts)

abbrev pub after_read : ℕ → Option (List ℕ) → Fed → Fed
after_read reading payload fed = after_keys reading (after_message reading payload (after_handover reading fed))

-- while the clock can't be read a message that comes is counted, and nothing is made
abbrev pub after_missed : Option (List ℕ) → Fed → Fed
after_missed None fed = fed
after_missed (Some payload) fed = with_unread fed

abbrev pub after_item : ℕ → Option (List ℕ) → Fed → Fed
after_item reading payload fed =
    if is_unread reading then after_missed payload fed else after_read reading payload fed

abbrev pub after_event : Fed → Event → Fed
after_event fed (Received reading (letters.Datagram bytes)) = after_item reading (Some bytes) fed
after_event fed (Received reading letters.Quiet) = after_item reading None fed
after_event fed (Rested reading) = after_item reading None fed

-- ---- a whole feed

-- the streams from the first one on that isn't over at the opening
abbrev pub lasting : ℕ → List Stream → List Stream
lasting opening [] = []
lasting opening (stream ∷ streams) = if has_ended stream opening then lasting opening streams else stream ∷ streams

abbrev pub next_setup : List Stream → Option Parts
next_setup [] = None
next_setup (stream ∷ streams) = Some stream.setup

-- these streams, of which nothing was made
abbrev pub parts_at : ℕ → List Stream → List Part
parts_at opening [] = []
parts_at opening (stream ∷ streams) = record {
  stream = stream;
  first = first_interval stream.setup.times opening;
  next = next_setup streams;
  log = [];
  handed = 0;
} ∷ parts_at opening streams

abbrev pub opened_with : List Part → Fed
opened_with parts = record { parts = parts; frames = []; whole = nothing_fed; handovers = 0 }

-- what comes of these events: nothing, where no stream is left
abbrev pub fed_from : List Part → List Event → Fed
fed_from [] events = opened_with []
fed_from (part ∷ parts) events = fold after_event (opened_with (part ∷ parts)) events

-- what a feed over the list that was opened at this reading makes of these events
abbrev pub fed_all : List Stream → ℕ → List Event → Fed
fed_all streams opening events = fed_from (parts_at opening (lasting opening streams)) events
