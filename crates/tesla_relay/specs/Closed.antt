-- What is known once posts were closed: one sent nothing, or these datagrams.
use Rattle.std.specs.Prelude.{◌≡◌, ◌⊎◌, ℕ, ◌<◌, Bool, false, List, [], ◌∷◌, map}
use Rattle.tesla_desk.specs.Faults.{HasCause}
use Rattle.tesla_desk.specs.Live.{Mail, UntoldMail, AbsentMail, HoldsMail, mail_of}
use Rattle.tesla_desk.specs.Outside.{Told}
use Rattle.tesla_front.specs.Names.{IsNoneOf, AreDistinct}
use Rattle.tesla_relay.specs.Opened.{post_name}
use Rattle.tesla_relay.specs.Posts.{PostSeen}

-- nothing was sent and nothing failed, where that is told
abbrev pub IsUnsent : Mail → Type 0
IsUnsent UntoldMail = Unit {0}
IsUnsent AbsentMail = ⊥
IsUnsent (HoldsMail sent failed) = (sent ≡ []) × (failed ≡ false)

-- the post sent these datagrams and failed so, where that is told
abbrev pub HoldsSent : List (List ℕ) → Bool → Mail → Type 0
HoldsSent datagrams failed UntoldMail = Unit {0}
HoldsSent datagrams failed AbsentMail = ⊥
HoldsSent datagrams failed (HoldsMail sent has_failed) = (sent ≡ datagrams) × (has_failed ≡ failed)

-- one of the posts failed
abbrev pub AnyFaulty : List PostSeen → Type 0
AnyFaulty [] = ⊥
AnyFaulty (post ∷ posts) = (0 < post.faults) ⊎ AnyFaulty posts

-- the desk tells of each post what it sent
abbrev pub HasMails : List PostSeen → Told → Type 0
HasMails [] now = Unit {0}
HasMails (post ∷ posts) now = (now.live.mail post.name ≡ mail_of post.sent post.faults) × HasMails posts now

-- the posts were closed: what the desk tells is as before, but for their mail and the count of writes
pub record ClosesTo (posts : List PostSeen) (before now : Told) : Type 0 where
  pub mails : AreDistinct (map post_name posts) → HasMails posts now
  pub others : (name : List ℕ) → IsNoneOf name (map post_name posts) → now.live.mail name ≡ before.live.mail name
  pub wires : (name : List ℕ) → now.live.wire name ≡ before.live.wire name
  pub remainders : (name : List ℕ) → now.live.left name ≡ before.live.left name
  pub clocks : (now.live.readings ≡ before.live.readings) × (now.live.made ≡ before.live.made)
  pub pages : (name : List ℕ) → now.page name ≡ before.page name
  pub lefts : (name : List ℕ) → now.left name ≡ before.left name
  pub asked : now.openings ≡ before.openings
  -- the count of writes rose exactly where a post failed
  pub reads : now.faults.reads ≡ before.faults.reads
  pub writes : HasCause before.faults.writes now.faults.writes (AnyFaulty posts)
  pub openings : now.faults.openings ≡ before.faults.openings
