-- What a feed takes of link, gate and clock, and what each post sends.
use Rattle.std.specs.Prelude.{◌≡◌, ℕ, Bool, true, false, List, [], ◌∷◌, ◌++◌, map, take, Option}
use Rattle.std.specs.List.{AllByRecursion}
use Rattle.tesla_desk.specs.Clocks.{Gives, Ticking}
use Rattle.tesla_desk.specs.Faults.{HasCause}
use Rattle.tesla_desk.specs.declared.link.Letter.{Letter}
use Rattle.tesla_relay.specs.Counts.{IsSentCount}
use Rattle.tesla_relay.specs.Posts.{PostSeen, with_datagrams}
use Rattle.tesla_feed.specs.Fed.{Event, Received, Rested, is_unread}

-- ---- events

-- an item that left the link, with the reading of the clock that was taken right after
pub record Heard : Type 0 where
  pub reading : ℕ
  pub letter : Letter

abbrev pub letter_of : Heard → Letter
letter_of one = one.letter

abbrev pub received_of : Heard → Event
received_of one = Received one.reading one.letter

abbrev pub rested_at : ℕ → Event
rested_at reading = Rested reading

-- items left the link, and then the gate rested
abbrev pub events_of : List Heard → List ℕ → List Event
events_of heard rests = map received_of heard ++ map rested_at rests

-- ---- posts

-- a post sent these datagrams, in order and each once; where it failed, a prefix of them
pub record SendsPost (datagrams : List (List ℕ)) (before now : PostSeen) (failed : Bool) : Type 0 where
  pub sends : ℕ
  pub many : IsSentCount datagrams failed sends
  pub sent : now.sent ≡ with_datagrams before.sent (take sends datagrams)
  pub name : now.name ≡ before.name
  pub cause : HasCause before.faults now.faults (failed ≡ true)

-- the same of each post, as it was and as it is, told which failed
abbrev pub SendPosts : List (List ℕ) → List PostSeen → List PostSeen → List Bool → Type 0
SendPosts datagrams [] [] [] = Unit {0}
SendPosts datagrams (before ∷ befores) (now ∷ nows) (failed ∷ others) = SendsPost datagrams before now failed × SendPosts datagrams befores nows others
SendPosts datagrams befores nows failed = ⊥

abbrev pub has_failed : Bool → Bool
has_failed failed = failed

-- ---- the opening

-- the clock was read until it could be, and its reading then is the opening
pub record OpensAt (opening : ℕ) (before after : Option Ticking) : Type 0 where
  pub unread : List ℕ
  pub gives : Gives (unread ++ opening ∷ []) before after
  pub missed : AllByRecursion (λ reading. is_unread reading ≡ true) unread
  pub read : is_unread opening ≡ false
