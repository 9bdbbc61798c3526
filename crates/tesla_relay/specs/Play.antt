-- Which arrivals of a capture are played, which readings let them pass, and what posts send.
use Rattle.std.specs.Prelude.{◌≡◌, ◌⊎◌, ℕ, ◌<◌, ◌≤◌, ◌^◌, List, [], ◌∷◌, ◌++◌, length, map, flat_map, Option, Some, None}
use Rattle.std.specs.List.{AllByRecursion}
use Rattle.tesla_capture.specs.Capture.{Record, Arrives, Takes, capture}
use Rattle.tesla_capture.specs.Records.{outline_of}
use Rattle.tesla_capture.specs.Taken.{IsReadUpTo}
use Rattle.tesla_desk.specs.Clocks.{Gives, Ticking}
use Rattle.tesla_desk.specs.Faults.{Rose}
use Rattle.tesla_relay.specs.Posts.{PostSeen, with_datagrams}
use Rattle.tesla_relay.specs.declared.playing.PlayEnd.{PlayEnd}
use Rattle.tesla_relay.specs.declared.playing.PlayEnd.TheVariants.{Ended, Refused, ReadFault, PostFault}

-- ---- arrivals

-- an arrival that was handed to the posts: its reading and its datagram
pub record Played : Type 0 where
  pub reading : ℕ
  pub bytes : List ℕ

abbrev pub reading_of : Played → ℕ
reading_of one = one.reading

abbrev pub bytes_of : Played → List ℕ
bytes_of one = one.bytes

-- the limits of its fields
abbrev pub IsPlayed : Played → Type 0
IsPlayed one = (one.reading < 2 ^ 64) × (length one.bytes ≤ 2048)

-- what is played of a record: a take is skipped
abbrev pub arrivals_in : Record → List Played
arrivals_in (Arrives reading bytes) = record { reading = reading; bytes = bytes } ∷ []
arrivals_in Takes = []

-- what is played of records, in order
abbrev pub arrivals_of : List Record → List Played
arrivals_of records = flat_map arrivals_in records

-- ---- readings of the clock

-- these readings of a clock let what is due at those pass, one after another: each takes the next that are below its own reading, and then one that is not. No other reading was taken
abbrev pub Paced : (due : List ℕ) (readings : List ℕ) → Type 0
Paced [] [] = Unit {0}
Paced [] (now ∷ readings) = ⊥
Paced (reading ∷ due) [] = ⊥
Paced (reading ∷ due) (now ∷ readings) = ((now < reading) × Paced (reading ∷ due) readings) ⊎ ((reading ≤ now) × Paced due readings)

-- ---- posts

-- a post that has sent these datagrams more, and of which nothing else has changed
abbrev pub having_sent : List (List ℕ) → PostSeen → PostSeen
having_sent datagrams post = record post { sent = with_datagrams post.sent datagrams }

-- a post failed once more, and sent nothing
pub record Fails (before now : PostSeen) : Type 0 where
  pub name : now.name ≡ before.name
  pub sent : now.sent ≡ before.sent
  pub stays : before.faults ≤ now.faults
  pub rose : Rose before.faults now.faults

-- the posts before the one that failed sent the datagram, that one didn't, and those behind it are as before
abbrev pub BreaksAt : (datagram : List ℕ) (before now : List PostSeen) → Type 0
BreaksAt datagram [] now = ⊥
BreaksAt datagram (post ∷ posts) [] = ⊥
BreaksAt datagram (post ∷ posts) (post_now ∷ posts_now) = ((post_now ≡ having_sent (datagram ∷ []) post) × BreaksAt datagram posts posts_now) ⊎ (Fails post post_now × (posts_now ≡ posts))

-- these datagrams were sent to all posts, and then one more, at which a post failed
pub record BreaksOff (datagrams : List (List ℕ)) (before now : List PostSeen) : Type 0 where
  pub prefix : List (List ℕ)
  pub last : List ℕ
  pub datagrams_are : datagrams ≡ prefix ++ last ∷ []
  pub breaks : BreaksAt last (map (having_sent prefix) before) now

-- what the posts did with these datagrams: each sent all of them, in order and each once, unless a post failed
abbrev pub PostsTo : PlayEnd → List (List ℕ) → List PostSeen → List PostSeen → Type 0
PostsTo (Ended sent) datagrams before now = now ≡ map (having_sent datagrams) before
PostsTo (Refused offset kind) datagrams before now = now ≡ map (having_sent datagrams) before
PostsTo ReadFault datagrams before now = now ≡ map (having_sent datagrams) before
PostsTo PostFault datagrams before now = BreaksOff datagrams before now

-- ---- the file

-- the arrivals of a file that was read up to what is left of it are these
pub record IsCutOff (bytes : List ℕ) (later : Option (List ℕ)) (played : List Played) : Type 0 where
  pub left : List ℕ
  pub records : List Record
  pub left_is : later ≡ Some left
  pub read : IsReadUpTo capture bytes left records
  pub arrivals : arrivals_of records ≡ played

-- the arrivals of a file begin with these
pub record IsPrefixOf (bytes : List ℕ) (played : List Played) : Type 0 where
  pub more : List Played
  pub arrivals : arrivals_of (outline_of capture bytes).records ≡ played ++ more

-- which arrivals of a file were played: all of one that is a capture, those before the first place that is refused, those of what was read before a read failed, or the first ones
abbrev pub FileTo : PlayEnd → List ℕ → Option (List ℕ) → List Played → Type 0
FileTo (Ended sent) bytes later played = ((outline_of capture bytes).fault ≡ None) × (arrivals_of (outline_of capture bytes).records ≡ played)
FileTo (Refused offset kind) bytes later played = ((outline_of capture bytes).fault ≡ Some (offset, kind)) × (arrivals_of (outline_of capture bytes).records ≡ played)
FileTo ReadFault bytes later played = IsCutOff bytes later played
FileTo PostFault bytes later played = IsPrefixOf bytes played

-- ---- a play

-- how many arrivals were played is told where the file ended
abbrev pub TellsCount : PlayEnd → List Played → Type 0
TellsCount (Ended sent) played = sent ≡ length played
TellsCount end played = Unit {0}

-- what a play comes to, of a source that had this left and has that left later, with a clock that told this before and that afterwards, and posts that are seen so before and so now
pub record Plays (end : PlayEnd) (left later : Option (List ℕ)) (before after : Option Ticking) (posts posts_now : List PostSeen) : Type 0 where
  pub played : List Played
  pub limits : AllByRecursion IsPlayed played
  pub readings : List ℕ
  pub gives : Gives readings before after
  pub paced : Paced (map reading_of played) readings
  pub posts_are : PostsTo end (map bytes_of played) posts posts_now
  pub count : TellsCount end played
  pub file : (bytes : List ℕ) → left ≡ Some bytes → FileTo end bytes later played
