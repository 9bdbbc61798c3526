-- What feed may send, and write to STATUS, while it runs.
use Rattle.std.specs.Prelude.{◌≡◌, ◌⊎◌, ℕ, ◌*◌, Bool, true, List, flat_map, Option, Some, None, IfSome}
use Rattle.std.specs.List.{Contains}
use Rattle.tesla_clock.specs.Schedule.{Times}
use Rattle.tesla_desk.specs.Outside.{Told}
use Rattle.tesla_feeds.specs.Due.{IsDue, IsNoted, IsWholeGiven, MaySendDue}
use Rattle.tesla_feeds.specs.Fed.{lasting}
use Rattle.tesla_feeds.specs.Notes.{Note}
use Rattle.tesla_feeds.specs.declared.events.FeedsCounts.{FeedsCounts}
use Rattle.tesla_front.specs.Openings.{files_told}
use Rattle.tesla_relay.specs.Posts.{PostSeen}
use Rattle.tesla_run_feed.specs.Arguments.{FeedArguments, IsFeedForm, StatusArguments, sources_of}
use Rattle.tesla_run_feed.specs.Feeding.{AreSoundIn, pages_of}
use Rattle.tesla_run_feed.specs.Listing.{all_times, is_right_stream, list_fault}
use Rattle.tesla_run_feed.specs.Status.{AreLinesOf, Line, end_line, has_line, last_reading, line_text, since_behind, time_line}
use Rattle.tesla_run_feed.specs.declared.line.SystemCounts.{SystemCounts}
use Rattle.tesla_sender.specs.Made.{Stream}

-- ---- the streams

-- the desk tells these streams under the names of the setups and the seeds: they are sound, and they are in order
pub record AreListedIn (told : Told) (arguments : FeedArguments) (streams : List Stream) : Type 0 where
  pub found : AreSoundIn arguments.setups (pages_of (files_told told (sources_of arguments))) streams
  pub fits : list_fault streams ≡ None

-- the streams of the list but for those in front that were over at a reading that the clock gave
pub record AreLeft (gave : ℕ → Bool) (told : Told) (arguments : FeedArguments) (streams going : List Stream) : Type 0 where
  pub listed : AreListedIn told arguments streams
  pub from : ℕ
  pub given : gave from ≡ true
  pub going_is : going ≡ lasting from streams

-- ---- what may be sent

-- each post under one of these names may send what is due of what is left of the list at any reading that the clock gave
abbrev pub MaySendLasting : {P : Type 0} → (P → PostSeen) → (P → List ℕ → Bool) → (ℕ → Bool) → (ℕ → List ℕ → ℕ → Bool)
    → List (List ℕ) → List Stream → Type 0
MaySendLasting seen may_send gave read_for names streams =
    (from : ℕ) → gave from ≡ true → MaySendDue is_right_stream seen may_send gave read_for names (lasting from streams)

-- a datagram is due at the post of this name, which tells to have sent these
pub record IsFedFor (gave : ℕ → Bool) (read_for : ℕ → List ℕ → ℕ → Bool) (arguments : FeedArguments) (told : Told)
    (name : List ℕ) (sent : Option (List (List ℕ))) (datagram : List ℕ) : Type 0 where
  -- the name is one of POSTS
  pub named : Contains arguments.posts name
  -- and it is due of the streams of the setups under SETUPS and the seeds under SECRETS, where these are told
  pub streams : List Stream
  pub going : List Stream
  pub left : AreLeft gave told arguments streams going
  pub due : IsDue is_right_stream gave read_for going sent datagram

-- the same, told the words, which are the form of the command
pub record IsFedFrom (gave : ℕ → Bool) (read_for : ℕ → List ℕ → ℕ → Bool) (words : List (List ℕ)) (told : Told)
    (name : List ℕ) (sent : Option (List (List ℕ))) (datagram : List ℕ) : Type 0 where
  pub arguments : FeedArguments
  pub form : IsFeedForm arguments words
  pub fed : IsFedFor gave read_for arguments told name sent datagram

-- ---- what may be written to STATUS

-- an output that tells what was written has the lines of those of these notes that have one, each whole and nothing else, told how many microseconds pass from a line to the next, and since which reading they are counted
pub record HasWritten (times : List Times) (every opening : ℕ) (notes : List Note) (written : Option (List ℕ)) : Type 0 where
  pub lines : List Line
  pub are : AreLinesOf every opening notes lines
  pub written_is : IfSome written (λ bytes. bytes ≡ flat_map (line_text times) lines)

-- the piece is the line that comes next in an output that has this written: a feed of these streams may tell this note behind those before it, and it has a line, counted since a reading that the clock gave
pub record IsNextLine (gave : ℕ → Bool) (read_for : ℕ → List ℕ → ℕ → Bool) (times : List Times) (streams : List Stream) (every : ℕ) (written : Option (List ℕ)) (piece : List ℕ) : Type 0 where
  pub opening : ℕ
  pub opened : gave opening ≡ true
  pub before : List Note
  pub has : HasWritten times every opening before written
  pub note : Note
  pub noted : IsNoted is_right_stream gave read_for streams before note
  pub due : has_line every (since_behind every opening before) note.reading ≡ true
  pub system : SystemCounts
  pub piece_is : piece ≡ time_line times system note

-- behind the lines of these notes this is the last line, of these counts at the last reading of the notes that could be had
pub record EndsWith (times : List Times) (every opening : ℕ) (counts : FeedsCounts) (written : Option (List ℕ)) (piece : List ℕ) (notes : List Note) : Type 0 where
  pub has : HasWritten times every opening notes written
  pub system : SystemCounts
  pub piece_is : piece ≡ end_line times system (record { reading = last_reading opening notes; counts = counts })

-- the piece is the last line of an output that has this written: its counts are those of events of a feed of these streams, of which all notes were told
pub record IsLastLine (gave : ℕ → Bool) (read_for : ℕ → List ℕ → ℕ → Bool) (times : List Times) (streams : List Stream) (every : ℕ) (written : Option (List ℕ)) (piece : List ℕ) : Type 0 where
  pub opening : ℕ
  pub opened : gave opening ≡ true
  pub counts : FeedsCounts
  pub whole : IsWholeGiven is_right_stream gave read_for streams counts (EndsWith times every opening counts written piece)

-- the piece may come next, told the intervals of all streams of the list
abbrev pub IsCounted : (ℕ → Bool) → (ℕ → List ℕ → ℕ → Bool) → List Times → List Stream → ℕ → Option (List ℕ) → List ℕ → Type 0
IsCounted gave read_for times streams every written piece =
    IsNextLine gave read_for times streams every written piece ⊎ IsLastLine gave read_for times streams every written piece

-- outputs of the name of STATUS, where there is one, may write each piece that may come next of these streams
abbrev pub MayWriteCounts : {S : Type 0} → (S → List ℕ) → (S → Option (List ℕ)) → (S → List ℕ → Bool) → (ℕ → Bool) → (ℕ → List ℕ → ℕ → Bool)
    → Option StatusArguments → List Times → List Stream → Type 0
MayWriteCounts name written may_write gave read_for None times streams = Unit {0}
MayWriteCounts {S} name written may_write gave read_for (Some status) times streams =
    (it : S) (piece : List ℕ) → name it ≡ status.output → IsCounted gave read_for times streams (status.every * 1000000) (written it) piece → may_write it piece ≡ true

-- the same of what is left of the list at any reading that the clock gave
abbrev pub MayWriteLasting : {S : Type 0} → (S → List ℕ) → (S → Option (List ℕ)) → (S → List ℕ → Bool) → (ℕ → Bool) → (ℕ → List ℕ → ℕ → Bool)
    → Option StatusArguments → List Stream → Type 0
MayWriteLasting name written may_write gave read_for status streams =
    (from : ℕ) → gave from ≡ true → MayWriteCounts name written may_write gave read_for status (all_times streams) (lasting from streams)

-- the name is that of STATUS, and the piece may come next
abbrev pub IsStatusLine : (ℕ → Bool) → (ℕ → List ℕ → ℕ → Bool) → Option StatusArguments → List Times → List Stream → List ℕ → Option (List ℕ) → List ℕ → Type 0
IsStatusLine gave read_for None times streams name written piece = ⊥
IsStatusLine gave read_for (Some status) times streams name written piece =
    (name ≡ status.output) × IsCounted gave read_for times streams (status.every * 1000000) written piece

-- a piece may come next in the output of this name, which tells that this was written to it
pub record IsCountedFor (gave : ℕ → Bool) (read_for : ℕ → List ℕ → ℕ → Bool) (arguments : FeedArguments) (told : Told)
    (name : List ℕ) (written : Option (List ℕ)) (piece : List ℕ) : Type 0 where
  -- of the streams of the setups under SETUPS and the seeds under SECRETS, where these are told
  pub streams : List Stream
  pub going : List Stream
  pub left : AreLeft gave told arguments streams going
  -- the name is that of STATUS, and it is a line of a feed of these
  pub line : IsStatusLine gave read_for arguments.status (all_times streams) going name written piece

-- the same, told the words, which are the form of the command
pub record IsCountedFrom (gave : ℕ → Bool) (read_for : ℕ → List ℕ → ℕ → Bool) (words : List (List ℕ)) (told : Told)
    (name : List ℕ) (written : Option (List ℕ)) (piece : List ℕ) : Type 0 where
  pub arguments : FeedArguments
  pub form : IsFeedForm arguments words
  pub counted : IsCountedFor gave read_for arguments told name written piece
