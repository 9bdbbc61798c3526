-- What a feed makes of what comes: calls, refusals, and disclosures that are due.
use Rattle.std.specs.Prelude.{ℕ, ◌+◌, ◌-◌, ◌*◌, ◌^◌, Bool, true, false, not, ◌&&◌, ◌==◌, List, [], ◌∷◌, ◌++◌, length, map, max, nat_lt, nat_le, Result, Ok, Err, if◌then◌else◌, option_to_list}
use Rattle.std.specs.List.{count_by, fold, list_all, list_any}
use Rattle.tesla_clock.specs.Schedule.{Times}
use Rattle.tesla_base.specs.declared.names.Name.{Name}
use Rattle.tesla_desk.specs.declared.link.Letter.{Letter}
use Rattle.tesla_desk.specs.declared.link.Letter.TheVariants as letters
use Rattle.tesla_frame.specs.Frame.{frame_text}
use Rattle.tesla_relay.specs.Counts.{counted}
use Rattle.tesla_sender.specs.Made.{Call, Message, Disclose, Chain, Stream, chains_of, frame_made, index_disclosed, interval_at, interval_in, latest_of, messages_of, name_after}
use Rattle.tesla_sender.specs.declared.refusal.SendRefusal.{SendRefusal}
use Rattle.tesla_sender.specs.declared.refusal.SendRefusal.TheVariants as unsent
use Rattle.tesla_feed.specs.declared.counts.FeedCounts.{FeedCounts}

-- ---- what happens

-- at one reading of the clock an item left the link, or the gate had rested
pub data Event : Type 0 where
  Received : (reading : ℕ) (letter : Letter) → Event
  Rested : (reading : ℕ) → Event

abbrev pub reading_of : Event → ℕ
reading_of (Received reading letter) = reading
reading_of (Rested reading) = reading

-- a clock that can't be read gives this in place of a reading: no call is made at it
abbrev pub is_unread : ℕ → Bool
is_unread reading = reading == 2 ^ 64 - 1

-- ---- the opening

-- the first interval in which a feed that was opened at this reading makes calls
abbrev pub first_interval : Times → ℕ → ℕ
first_interval times opening = interval_at times opening + 1

-- the interval has begun by a reading
abbrev pub has_begun : Times → ℕ → ℕ → Bool
has_begun times first reading = not (is_unread reading) && nat_le first (interval_at times reading)

-- a feed that was opened at this reading is over: on every chain it lies behind the end of the last interval by more than the delay and 64 intervals
abbrev pub has_ended : Stream → ℕ → Bool
has_ended stream opening =
    list_all (λ chain. nat_lt (stream.setup.times.start + (stream.setup.times.last + 1 + chain.row.delay + 64) * stream.setup.times.length) opening) (chains_of stream)

-- the interval of the last call, or the first interval where that is greater: a call in an earlier one goes backward
abbrev pub latest_from : Times → ℕ → List Call → ℕ
latest_from times first log = max first (latest_of times log)

-- ---- messages

-- the name of a message after a log, or why it is refused: as a sender judges it, but for the opening
abbrev pub name_from : Times → ℕ → List Call → ℕ → List ℕ → Result Name SendRefusal
name_from times first log reading payload = name_after times (latest_from times first log) (messages_of times (interval_at times reading) log) reading payload

-- ---- keys

-- the greatest index of a key of the chain that the frames of these calls tell, 0 where they tell none
abbrev pub disclosed_by : Times → List Call → Chain → ℕ
disclosed_by times log chain = fold (λ most call. max most (index_disclosed (interval_in times call) chain)) 0 log

-- on some chain a call in the interval tells a newer key than every frame of a log
abbrev pub tells_more : Stream → List Call → ℕ → Bool
tells_more stream log interval = list_any (λ chain. nat_lt (disclosed_by stream.setup.times log chain) (index_disclosed interval chain)) (chains_of stream)

-- a disclosure at the reading is due after a log: the clock was read, its interval isn't before the first one or before that of the last call, and it tells a newer key
abbrev pub is_due : Stream → ℕ → List Call → ℕ → Bool
is_due stream first log reading =
    let interval = interval_at stream.setup.times reading in
    has_begun stream.setup.times first reading && (nat_le (latest_of stream.setup.times log) interval && tells_more stream log interval)

-- ---- one event

-- what was made: the calls, and why messages were refused, both in order; and how many messages came while the clock couldn't be read
pub record Feeding : Type 0 where
  pub log : List Call
  pub refused : List SendRefusal
  pub unread : ℕ

abbrev pub with_call : Feeding → Call → Feeding
with_call made call = record { log = made.log ++ call ∷ []; refused = made.refused; unread = made.unread }

abbrev pub with_refusal : Feeding → SendRefusal → Feeding
with_refusal made refusal = record { log = made.log; refused = made.refused ++ refusal ∷ []; unread = made.unread }

abbrev pub with_unread : Feeding → Feeding
with_unread made = record { log = made.log; refused = made.refused; unread = made.unread + 1 }

-- no message was sent at the reading: a disclosure is made where one is due
abbrev pub after_none : Stream → ℕ → Feeding → ℕ → Feeding
after_none stream first made reading = if is_due stream first made.log reading then with_call made (Disclose reading) else made

-- a message was judged: it is sent, or it is refused, and then a disclosure may be due
abbrev pub after_judged : Stream → ℕ → Feeding → ℕ → List ℕ → Result Name SendRefusal → Feeding
after_judged stream first made reading payload (Ok name) = with_call made (Message reading payload)
after_judged stream first made reading payload (Err refusal) = after_none stream first (with_refusal made refusal) reading

-- each datagram is a message; one that comes while the clock can't be read is counted, and nothing is made of it
abbrev pub after_event : Stream → ℕ → Feeding → Event → Feeding
after_event stream first made (Received reading (letters.Datagram bytes)) =
    if is_unread reading then with_unread made else after_judged stream first made reading bytes (name_from stream.setup.times first made.log reading bytes)
after_event stream first made (Received reading letters.Quiet) = after_none stream first made reading
after_event stream first made (Rested reading) = after_none stream first made reading

-- ---- a whole feed

abbrev pub nothing_fed : Feeding
nothing_fed = record { log = []; refused = []; unread = 0 }

-- what a feed of the stream that was opened at this reading makes of these events: one that is over makes nothing
abbrev pub fed : Stream → ℕ → List Event → Feeding
fed stream opening events = if has_ended stream opening then nothing_fed else fold (after_event stream (first_interval stream.setup.times opening)) nothing_fed events

-- ---- frames

-- the datagram of a call: the text of the frame that it makes after the calls before it
abbrev pub datagram_of : Stream → List Call → Call → List (List ℕ)
datagram_of stream before call = map frame_text (option_to_list (frame_made stream before call))

-- the datagrams of these calls, each after those before it
abbrev pub datagrams_from : Stream → List Call → List Call → List (List ℕ)
datagrams_from stream before [] = []
datagrams_from stream before (call ∷ calls) = datagram_of stream before call ++ datagrams_from stream (before ++ call ∷ []) calls

abbrev pub datagrams_of : Stream → List Call → List (List ℕ)
datagrams_of stream log = datagrams_from stream [] log

-- ---- the end

-- the interval of a message, and of another call that of the message before
abbrev pub message_interval : Times → ℕ → Call → ℕ
message_interval times before (Message reading payload) = interval_at times reading
message_interval times before (Disclose reading) = before

-- the interval of the last message, 0 where there is none
abbrev pub last_message : Times → List Call → ℕ
last_message times log = fold (message_interval times) 0 log

-- the key of the last message's interval was disclosed on every chain
abbrev pub is_all_disclosed : Stream → List Call → Bool
is_all_disclosed stream log = list_all (λ chain. nat_le (last_message stream.setup.times log) (disclosed_by stream.setup.times log chain)) (chains_of stream)

-- ---- counts

abbrev pub is_message : Call → Bool
is_message (Message reading payload) = true
is_message (Disclose reading) = false

abbrev pub is_disclosure : Call → Bool
is_disclosure call = not (is_message call)

abbrev pub is_too_long : SendRefusal → Bool
is_too_long (unsent.TooLong length) = true
is_too_long _ = false

abbrev pub is_early : SendRefusal → Bool
is_early (unsent.Early reading) = true
is_early _ = false

abbrev pub is_over : SendRefusal → Bool
is_over (unsent.Over interval) = true
is_over _ = false

abbrev pub is_backward : SendRefusal → Bool
is_backward (unsent.Backward interval) = true
is_backward _ = false

abbrev pub is_full : SendRefusal → Bool
is_full (unsent.IntervalFull interval) = true
is_full _ = false

-- how many calls of each kind were made, and how many messages were refused by each cause
abbrev pub counts_of : Feeding → FeedCounts
counts_of made = record {
  messages = counted (count_by is_message made.log);
  disclosures = counted (count_by is_disclosure made.log);
  too_long = counted (count_by is_too_long made.refused);
  early = counted (count_by is_early made.refused);
  over = counted (count_by is_over made.refused);
  backward = counted (count_by is_backward made.refused);
  full = counted (count_by is_full made.refused);
  unread = counted made.unread;
}
