-- What a feed over a list may send and tell while it runs. That is the next frame of one feed, and the counts of all until then, at readings that the clock gave.
use Rattle.std.specs.Prelude.{◌≡◌, ℕ, Bool, true, List, [], ◌∷◌, ◌++◌, Option, IfSome}
use Rattle.std.specs.List.{Contains}
use Rattle.tesla_relay.specs.Posts.{PostSeen}
use Rattle.tesla_sender.specs.Made.{Stream}
use Rattle.tesla_feed.specs.Due.{AreGiven}
use Rattle.tesla_feed.specs.Fed.{Event}
use Rattle.tesla_feeds.specs.Fed.{fed_all}
use Rattle.tesla_feeds.specs.Later.{are_right_where_used}
use Rattle.tesla_feeds.specs.Notes.{Note, all_counts, notes_of}
use Rattle.tesla_feeds.specs.Opening.{first_lasts}
use Rattle.tesla_feeds.specs.declared.events.FeedsCounts.{FeedsCounts}

-- ---- what may be sent

-- a datagram is due at a post that tells to have sent these
pub record IsDue (right : Stream → Bool) (gave : ℕ → Bool) (read_for : ℕ → List ℕ → ℕ → Bool) (streams : List Stream) (sent : Option (List (List ℕ)))
    (datagram : List ℕ) : Type 0 where
  -- a feed over the list was opened at a reading that the clock gave
  pub opening : ℕ
  pub opened : gave opening ≡ true
  -- behind it came these events and a last one, at readings that the clock gave, with all datagrams of the link from its first one on
  pub earlier : List Event
  pub last : Event
  pub given : AreGiven gave read_for 0 (earlier ++ last ∷ [])
  -- it is one of the frames that the last event adds to those of the events before it
  pub before : List (List ℕ)
  pub later : List (List ℕ)
  pub frames : (fed_all streams opening (earlier ++ last ∷ [])).frames ≡ (fed_all streams opening earlier).frames ++ (before ++ datagram ∷ later)
  -- of the streams of which something was made the seeds are right
  pub used : are_right_where_used right (fed_all streams opening (earlier ++ last ∷ [])) ≡ true
  -- and the post sent all frames before it, each once and in order, and nothing else
  pub sent_before : IfSome sent (λ all. all ≡ (fed_all streams opening earlier).frames ++ before)

-- each post under one of these names may send what is due of the list
abbrev pub MaySendDue : {P : Type 0} → (Stream → Bool) → (P → PostSeen) → (P → List ℕ → Bool) → (ℕ → Bool) → (ℕ → List ℕ → ℕ → Bool)
    → List (List ℕ) → List Stream → Type 0
MaySendDue {P} right seen may_send gave read_for names streams =
    (post : P) (datagram : List ℕ) → Contains names (seen post).name
    → IsDue right gave read_for streams (seen post).sent datagram → may_send post datagram ≡ true

-- ---- what may be told of the counts

-- this may be told behind what was told before
pub record IsNoted (right : Stream → Bool) (gave : ℕ → Bool) (read_for : ℕ → List ℕ → ℕ → Bool) (streams : List Stream) (before : List Note) (note : Note)
    : Type 0 where
  -- a feed over the list was opened at a reading that the clock gave, and its first stream isn't over then
  pub opening : ℕ
  pub opened : gave opening ≡ true
  pub lasts : first_lasts opening streams ≡ true
  -- behind it came these events, at readings that the clock gave, with all datagrams of the link from its first one on
  pub events : List Event
  pub given : AreGiven gave read_for 0 events
  -- of the streams of which something was made the seeds are right
  pub used : are_right_where_used right (fed_all streams opening events) ≡ true
  -- it is the note of the last one, and those of all before it were told, in order, and nothing else
  pub last : notes_of streams opening events ≡ before ++ note ∷ []

-- whoever was told so may be told what follows
abbrev pub MayNoteAll : {N : Type 0} → (Stream → Bool) → (N → List Note → Type 0) → (N → Note → Type 0) → (ℕ → Bool) → (ℕ → List ℕ → ℕ → Bool)
    → List Stream → Type 0
MayNoteAll {N} right was_told may_note gave read_for streams =
    (it : N) (before : List Note) (note : Note) → was_told it before → IsNoted right gave read_for streams before note
    → may_note it note

-- all counts are those of such events, of which the notes were told
pub record IsWholeGiven (right : Stream → Bool) (gave : ℕ → Bool) (read_for : ℕ → List ℕ → ℕ → Bool) (streams : List Stream) (counts : FeedsCounts)
    (was_told : List Note → Type 0) : Type 0 where
  pub opening : ℕ
  pub opened : gave opening ≡ true
  pub lasts : first_lasts opening streams ≡ true
  pub events : List Event
  pub given : AreGiven gave read_for 0 events
  pub used : are_right_where_used right (fed_all streams opening events) ≡ true
  pub noted : was_told (notes_of streams opening events)
  pub counts_are : counts ≡ all_counts (fed_all streams opening events)
