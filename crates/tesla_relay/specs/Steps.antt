-- What the inner steps of a play come to.
use Rattle.std.specs.Prelude.{◌≡◌, ℕ, ◌<◌, true, false, Bool, List, [], ◌∷◌, length, map, Option, Some}
use Rattle.std.specs.List.{AllByRecursion}
use Rattle.tesla_capture.specs.Capture.{Record, capture}
use Rattle.tesla_capture.specs.Taken.{IsTaken}
use Rattle.tesla_desk.specs.Clocks.{Gives, Ticking}
use Rattle.tesla_relay.specs.Posts.{PostSeen}
use Rattle.tesla_relay.specs.Play.{BreaksAt, IsPlayed, Paced, Played, arrivals_of, bytes_of, having_sent, reading_of}

-- the clock gave readings that are all below this one
pub record Awaits (reading : ℕ) (before after : Option Ticking) : Type 0 where
  pub early : List ℕ
  pub gives : Gives early before after
  pub below : AllByRecursion (λ now. now < reading) early

-- the clock gave readings up to one that isn't below this one
pub record WaitsFor (reading : ℕ) (before after : Option Ticking) : Type 0 where
  pub readings : List ℕ
  pub gives : Gives readings before after
  pub paced : Paced (reading ∷ []) readings

-- a datagram was handed to the posts: all sent it, or one failed
abbrev pub Hands : List ℕ → Bool → List PostSeen → List PostSeen → Type 0
Hands datagram true before now = now ≡ map (having_sent (datagram ∷ [])) before
Hands datagram false before now = BreaksAt datagram before now

-- the first records of a file were taken, and these are their arrivals; what stands at the place is ahead
pub record IsPlayedTo (bytes : List ℕ) (played : List Played) (offset : ℕ) (ahead : Option (List ℕ)) : Type 0 where
  pub records : List Record
  pub rest : List ℕ
  pub ahead_is : ahead ≡ Some rest
  pub taken : IsTaken capture bytes records offset rest
  pub arrivals : arrivals_of records ≡ played

-- so many arrivals were played, and what stands at the place is ahead
pub record PlaysOn (count offset : ℕ) (left ahead : Option (List ℕ)) (before after : Option Ticking) (posts posts_now : List PostSeen) : Type 0 where
  pub played : List Played
  pub limits : AllByRecursion IsPlayed played
  pub readings : List ℕ
  pub gives : Gives readings before after
  pub paced : Paced (map reading_of played) readings
  pub posts_are : posts_now ≡ map (having_sent (map bytes_of played)) posts
  pub count_is : count ≡ length played
  pub file : (bytes : List ℕ) → left ≡ Some bytes → IsPlayedTo bytes played offset ahead
