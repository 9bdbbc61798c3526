-- Which datagrams a relay keeps and drops, and what each post sends. One may be dropped for a post only behind so many that were kept.
use Rattle.std.specs.Prelude.{◌≡◌, ℕ, suc, ◌≤◌, Bool, true, false, List, [], ◌∷◌, length, take, Option, IfSome}
use Rattle.tesla_desk.specs.Faults.{HasCause}
use Rattle.tesla_desk.specs.Links.{after_letters, datagrams}
use Rattle.tesla_desk.specs.declared.link.Letter.{Letter}
use Rattle.tesla_relay.specs.Counts.{counted}
use Rattle.tesla_relay.specs.Posts.{PostSeen, with_datagrams}
use Rattle.tesla_relay.specs.declared.relayed.PostCount.{PostCount}
use Rattle.tesla_relay.specs.declared.relayed.RelayEnd.{RelayEnd}
use Rattle.tesla_relay.specs.declared.relayed.RelayEnd.TheVariants.{Ended}

-- ---- which datagrams are dropped

-- the datagrams that weren't dropped: of each a mark tells whether it was kept
abbrev pub kept_of : List Bool → List (List ℕ) → List (List ℕ)
kept_of (true ∷ marks) (datagram ∷ more) = datagram ∷ kept_of marks more
kept_of (false ∷ marks) (datagram ∷ more) = kept_of marks more
kept_of _ _ = []

-- how many were dropped
abbrev pub dropped_in : List Bool → ℕ
dropped_in [] = 0
dropped_in (true ∷ marks) = dropped_in marks
dropped_in (false ∷ marks) = suc (dropped_in marks)

-- none was dropped but behind so many that were kept, told how many were kept before these
abbrev pub DropsBehind : ℕ → ℕ → List Bool → Type 0
DropsBehind capacity before [] = Unit {0}
DropsBehind capacity before (true ∷ marks) = DropsBehind capacity (suc before) marks
DropsBehind capacity before (false ∷ marks) = (capacity ≤ before) × DropsBehind capacity before marks

-- ---- what a post sends

-- of the datagrams that came these were sent: those that weren't dropped for the post, in order and each once; where it failed, a prefix of them
pub record RelaysTo (capacity : ℕ) (arrived sent : List (List ℕ)) (count : PostCount) : Type 0 where
  -- of each datagram a mark tells whether it was kept for the post, and none was dropped but behind as many others as the queue holds
  pub marks : List Bool
  pub each : length marks ≡ length arrived
  pub full : DropsBehind capacity 0 marks
  pub sends : ℕ
  pub few : sends ≤ length (kept_of marks arrived)
  pub all : count.failed ≡ false → sends ≡ length (kept_of marks arrived)
  pub sent_are : sent ≡ take sends (kept_of marks arrived)
  -- the counts tell it
  pub sent_count : count.sent ≡ counted sends
  pub dropped_count : count.dropped ≡ counted (dropped_in marks)

-- a post sent such datagrams
pub record RelaysPost (capacity : ℕ) (arrived : List (List ℕ)) (old new : PostSeen) (count : PostCount) : Type 0 where
  pub sent : List (List ℕ)
  pub to : RelaysTo capacity arrived sent count
  pub sent_is : new.sent ≡ with_datagrams old.sent sent
  pub name : new.name ≡ old.name
  pub cause : HasCause old.faults new.faults (count.failed ≡ true)

-- the same of each post, as it was and as it is, with its count
abbrev pub RelaysPosts : ℕ → List (List ℕ) → List PostSeen → List PostSeen → List PostCount → Type 0
RelaysPosts capacity arrived [] [] [] = Unit {0}
RelaysPosts capacity arrived (old ∷ olds) (new ∷ news) (count ∷ counts) = RelaysPost capacity arrived old new count × RelaysPosts capacity arrived olds news counts
RelaysPosts capacity arrived olds news counts = ⊥

-- ---- a run

-- what left the link was relayed to the posts, and where it came to the link's end nothing is left
pub record Relays (capacity : ℕ) (left later : Option (List Letter)) (olds news : List PostSeen) (end : RelayEnd) (counts : List PostCount) : Type 0 where
  pub taken : List Letter
  pub left_is : left ≡ after_letters taken later
  pub posts : RelaysPosts capacity (datagrams taken) olds news counts
  pub ended : end ≡ Ended → IfSome later (λ rest. rest ≡ [])
