-- Which datagram a post is to send next.
use Rattle.std.specs.Prelude.{◌≡◌, ℕ, ◌≤◌, Bool, true, false, List, [], ◌∷◌, ◌++◌, map, Option, Some}
use Rattle.std.specs.List.{Contains}
use Rattle.tesla_relay.specs.Numbered.{AreBrought, Numbered, datagram_of}
use Rattle.tesla_relay.specs.Play.{IsPrefixOf, Played, bytes_of, having_sent}
use Rattle.tesla_relay.specs.Posts.{PostSeen}

-- ---- of a capture

-- the datagram is that of an arrival, told what holds of the first arrivals of the capture: it comes behind these, and a clock gave its reading or a later one
pub record IsNextArrival (gave : ℕ → Bool) (AreFirst : List Played → Type 0) (before : List Played) (datagram : List ℕ) : Type 0 where
  pub reading : ℕ
  pub first : AreFirst (before ++ record { reading = reading; bytes = datagram } ∷ [])
  pub now : ℕ
  pub given : gave now ≡ true
  pub late : reading ≤ now

-- these are the first arrivals of a source that had this left, where that is told
abbrev pub AreFirstOf : Option (List ℕ) → List Played → Type 0
AreFirstOf left played = (bytes : List ℕ) → left ≡ Some bytes → IsPrefixOf bytes played

-- a play of a source that had this left to posts that were seen so at its start: one of them has sent the datagrams of the arrivals before this one, in order and each once, and nothing else of it has changed
pub record IsNextPlayed (gave : ℕ → Bool) (left : Option (List ℕ)) (starts : List PostSeen) (post : PostSeen) (datagram : List ℕ) : Type 0 where
  pub start : PostSeen
  pub among : Contains starts start
  pub before : List Played
  pub post_is : post ≡ having_sent (map bytes_of before) start
  pub next : IsNextArrival gave (AreFirstOf left) before datagram

-- ---- of a link

-- what a relay rests on: which datagrams links have brought, with their numbers, and the posts as they were seen at its start
pub record Basis : Type 0 where
  pub brought : ℕ → List ℕ → Bool
  pub posts : List PostSeen

-- of a relay of which nothing is known
abbrev pub nothing : Basis
nothing = record { brought = λ number bytes. false; posts = [] }

-- a post is to send this datagram next in a relay: one of the posts has sent datagrams that the link brought before this one, in order and each once, and nothing else of it has changed
pub record IsNextRelayed (basis : Basis) (post : PostSeen) (datagram : List ℕ) : Type 0 where
  pub start : PostSeen
  pub among : Contains basis.posts start
  pub before : List Numbered
  pub post_is : post ≡ having_sent (map datagram_of before) start
  pub number : ℕ
  pub brought : AreBrought basis.brought (before ++ record { number = number; bytes = datagram } ∷ [])
