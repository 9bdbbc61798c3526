-- What the inner steps of a feed come to.
use Rattle.std.specs.Prelude.{◌≡◌, ℕ, ◌+◌, ◌-◌, ◌*◌, ◌^◌, ◌<◌, Bool, true, false, ◌&&◌, List, [], ◌∷◌, ◌++◌, length, min, nat_le, take, Option, Some, None, IfSome, Result, Ok, Err, if◌then◌else◌}
use Rattle.std.specs.List.{AllByRecursion, list_all}
use denote.Ref.{Bor}
use Rattle.tesla_base.specs.declared.names.Name.{Name}
use Rattle.tesla_clock.specs.Schedule.{Times}
use Rattle.tesla_desk.specs.Clocks.{Gives, Ticking}
use Rattle.tesla_desk.specs.Faults.{HasCause}
use Rattle.tesla_desk.specs.declared.link.Letter.{Letter}
use Rattle.tesla_relay.specs.Posts.{PostSeen, with_datagrams}
use Rattle.tesla_sender.specs.Made.{Call, Message, Chain, Stream, chains_of, index_disclosed, latest_of, messages_of, tells_all, tells_newer}
use Rattle.tesla_sender.specs.declared.refusal.SendRefusal.{SendRefusal}
use Rattle.tesla_sender.specs.declared.refusal.SendRefusal.TheVariants as unsent
use Rattle.tesla_feed.specs.Fed.{Feeding, counts_of, datagram_of, is_unread, last_message, latest_from, name_from, disclosed_by, with_call, with_refusal}
use Rattle.tesla_feed.specs.Feed.{has_failed}
use Rattle.tesla_feed.specs.declared.counts.FeedCounts.{FeedCounts}
use Rattle.tesla_feed.specs.declared.feeder.Feeder.{Feeder}
use Rattle.tesla_feed.specs.declared.hearing.Hearing.{Hearing}
use Rattle.tesla_feed.specs.declared.hearing.Hearing.TheVariants as hearings

-- ---- counts

-- a count of 64 bits after one more
abbrev pub one_more : ℕ → ℕ
one_more n = min (n + 1) (2 ^ 64 - 1)

-- the counts after a message that is refused
abbrev pub after_refusal : FeedCounts → SendRefusal → FeedCounts
after_refusal counts (unsent.TooLong length) = record counts { too_long = one_more counts.too_long }
after_refusal counts (unsent.Early reading) = record counts { early = one_more counts.early }
after_refusal counts (unsent.Over interval) = record counts { over = one_more counts.over }
after_refusal counts (unsent.Backward interval) = record counts { backward = one_more counts.backward }
after_refusal counts (unsent.IntervalFull interval) = record counts { full = one_more counts.full }

-- ---- the sender of a feed

-- a disclosure in the interval is due, told the first interval and that of the last call
abbrev pub is_due_after : Stream → ℕ → ℕ → ℕ → Bool
is_due_after stream first latest interval = nat_le first interval && (nat_le latest interval && tells_newer latest interval (chains_of stream))

-- the key of the interval of the last message was disclosed on every chain, told the interval of the last call
abbrev pub is_disclosed_after : Stream → ℕ → ℕ → Bool
is_disclosed_after stream message latest = tells_all message latest (chains_of stream)

-- how many microseconds after a reading an interval begins, 0 where it has begun. A begin behind the last reading of
-- 64 bits counts as that
abbrev pub until_begin : Times → ℕ → ℕ → ℕ
until_begin times interval reading = min (times.start + interval * times.length) (2 ^ 64 - 1) - reading

-- a feeder of the stream, whose first interval this is, remembers what it needs of what was made
pub record StandsFor (stream : Stream) (first : ℕ) (feeder : Feeder) (made : Feeding) : Type 0 where
  pub stream_is : feeder.sender.stream ≡ stream
  pub first_is : feeder.first ≡ first
  pub from : feeder.sender.latest ≡ latest_from stream.setup.times first made.log
  pub used : feeder.sender.used ≡ messages_of stream.setup.times feeder.sender.latest made.log
  -- no message was sent in an interval after that
  pub none_later : (interval : ℕ) → feeder.sender.latest < interval → messages_of stream.setup.times interval made.log ≡ 0
  pub latest : feeder.latest ≡ latest_of stream.setup.times made.log
  pub keys_disclosed : (chain : Chain) → disclosed_by stream.setup.times made.log chain ≡ index_disclosed feeder.latest chain
  pub message : feeder.message ≡ last_message stream.setup.times made.log
  pub counts : feeder.counts ≡ counts_of made

-- a call more was made, and the datagram of its frame stands at the start of the room; or none was made
abbrev pub Adds : Stream → List Call → List Call → Option ℕ → List ℕ → Type 0
Adds stream before now None frame = now ≡ before
Adds stream before now (Some size) frame = (call : Call) × (now ≡ before ++ call ∷ []) × (datagram_of stream before call ≡ take size frame ∷ [])

-- the feeder stands for what was made and this, and gives the length of the frame that was added
pub record Makes (stream : Stream) (first : ℕ) (made after : Feeding) (feeder : Feeder) (result : Option ℕ) : Type 0 where
  pub stands : StandsFor stream first feeder after
  pub adds : Adds stream made.log after.log result feeder.frame

-- a message was judged: it was sent, and its frame was made; or it was refused, and none was
abbrev pub Says : Stream → ℕ → Feeding → ℕ → List ℕ → Feeder → Result ℕ SendRefusal → Type 0
Says stream first made reading payload feeder (Ok size) =
    (name : Name) × (name_from stream.setup.times first made.log reading payload ≡ Ok name)
    × StandsFor stream first feeder (with_call made (Message reading payload))
    × (datagram_of stream made.log (Message reading payload) ≡ take size feeder.frame ∷ [])
Says stream first made reading payload feeder (Err refusal) =
    (name_from stream.setup.times first made.log reading payload ≡ Err refusal)
    × StandsFor stream first feeder (with_refusal made refusal)

-- ---- posts

-- a datagram was handed to a post that hadn't failed, which sent it or failed; or it had failed, and is as before
pub record HandsPost (datagram : List ℕ) (before now : PostSeen) (failed failed_now : Bool) : Type 0 where
  pub name : now.name ≡ before.name
  pub sent : failed_now ≡ false → now.sent ≡ with_datagrams before.sent (datagram ∷ [])
  pub unsent : failed_now ≡ true → now.sent ≡ before.sent
  pub cause : failed ≡ false → HasCause before.faults now.faults (failed_now ≡ true)
  pub stays : failed ≡ true → (failed_now ≡ true) × (now.faults ≡ before.faults)

-- the same of each post, with the marks of those that have failed
abbrev pub HandPosts : List ℕ → List PostSeen → List PostSeen → List Bool → List Bool → Type 0
HandPosts datagram [] [] [] [] = Unit {0}
HandPosts datagram (before ∷ befores) (now ∷ nows) (failed ∷ others) (failed_now ∷ others_now) = HandsPost datagram before now failed failed_now × HandPosts datagram befores nows others others_now
HandPosts datagram befores nows failed failed_now = ⊥

-- each of these posts that hasn't failed may send the datagram
abbrev pub MayHand : {P : Type 0} → (P → List ℕ → Bool) → List ℕ → List P → List Bool → Type 0
MayHand may_send datagram [] failed = Unit {0}
MayHand may_send datagram (post ∷ posts) [] = Unit {0}
MayHand may_send datagram (post ∷ posts) (failed ∷ others) =
    (failed ≡ false → may_send post datagram ≡ true) × MayHand may_send datagram posts others

-- ---- events

-- what came: the bytes of a message, or none
abbrev pub bytes_in : Option (Bor (List ℕ)) → Option (List ℕ)
bytes_in None = None
bytes_in (Some bytes) = Some bytes.now

-- the last reading that was noted, after this one: what a clock gives while it can't be read isn't noted
abbrev pub noted : ℕ → ℕ → ℕ
noted before reading = if is_unread reading then before else reading

-- the clock couldn't be read
pub record Misses (before after : Option Ticking) : Type 0 where
  pub unread : List ℕ
  pub gives : Gives unread before after
  pub missed : AllByRecursion (λ reading. is_unread reading ≡ true) unread

-- why no more items were taken
abbrev pub StopsHearing : Hearing → List Bool → Option (List Letter) → Type 0
StopsHearing hearings.Ended failed later = IfSome later (λ rest. rest ≡ [])
StopsHearing hearings.LinkFailed failed later = Unit {0}
StopsHearing hearings.Unheard failed later = list_all has_failed failed ≡ true
StopsHearing hearings.Lacking failed later = Unit {0}
StopsHearing hearings.Lost failed later = Unit {0}

-- no more items were taken since the sender of a later stream can't be had
abbrev pub lacks_sender : Hearing → Bool
lacks_sender hearings.Ended = false
lacks_sender hearings.LinkFailed = false
lacks_sender hearings.Unheard = false
lacks_sender hearings.Lacking = true
lacks_sender hearings.Lost = true
