-- A run of watch-relay between the opening of its link and the closings.
use Rattle.std.specs.Prelude.{◌≡◌, ◌⊎◌, ◌||◌, ℕ, Bool, List, length, Option, Some, None, Ok, Err}
use Rattle.std.specs.List.{list_any}
use Rattle.tesla_desk.specs.Faults.{HasCause}
use Rattle.tesla_desk.specs.Outside.{ClosesLink, ClosesSink, MakesClock, OpensSink, Told}
use Rattle.tesla_desk.specs.declared.desk.OpenRefusal.{OpenRefusal}
use Rattle.tesla_desk.specs.declared.link.Letter.{Letter}
use Rattle.tesla_front.specs.Fault.{unopened}
use Rattle.tesla_front.specs.OutcomeView.{OutcomeView, Failed}
use Rattle.tesla_front.specs.declared.fault.Fault.{Fault}
use Rattle.tesla_front.specs.declared.fault.Fault.TheVariants as faults
use Rattle.tesla_relay.specs.Opening.{ClosesPosts, OpensEach}
use Rattle.tesla_relay.specs.Posts.{PostSeen}
use Rattle.tesla_relay.specs.Relay.{Relays}
use Rattle.tesla_relay.specs.declared.relayed.PostCount.{PostCount}
use Rattle.tesla_relay.specs.declared.relayed.RelayEnd.{RelayEnd}
use Rattle.tesla_relay.specs.declared.relayed.RelayEnd.TheVariants as ends
use Rattle.tesla_run_relay.specs.Lines.{has_failed, outcome_with}
use Rattle.tesla_run_relay.specs.watch.Watch.{unless_failed}
use Rattle.tesla_run_relay.specs.watch.Written.{HasAllTold}

-- nothing was read of the link, and the posts are as they were opened
pub record IsUnread (left later : Option (List Letter)) (fresh missed : ℕ) (opened posts : List PostSeen) : Type 0 where
  pub left_is : later ≡ left
  pub missed_is : missed ≡ fresh
  pub posts_are : posts ≡ opened

-- ---- STATUS

-- it wasn't opened, since that was refused or there was no memory
abbrev pub LacksStatus : List ℕ → Told → Told → Fault → Type 0
LacksStatus status before now fault =
    ((now ≡ before) × (fault ≡ faults.NoMemory)) ⊎ ((refusal : OpenRefusal) × OpensSink {A = Unit {0}} status (Err refusal) before now × (fault ≡ unopened refusal))

-- it was closed, and has lines of so many posts
pub record EndsTold (status : List ℕ) (posts : ℕ) (counts : Option (List PostCount)) (failed : Bool) (before now : Told) : Type 0 where
  pub written : Option (List ℕ)
  pub faults : ℕ
  pub told : HasAllTold posts counts written faults failed
  pub closes : ClosesSink status written faults before now

-- it was opened, and then a clock was made
pub record OpensTold (status : List ℕ) (before now : Told) : Type 0 where
  pub opened : Told
  pub opens : OpensSink {A = Unit {0}} status (Ok tt) before opened
  pub makes : MakesClock opened now

-- both
pub record TellsStatus (status : List ℕ) (posts : ℕ) (counts : Option (List PostCount)) (failed : Bool) (before now : Told) : Type 0 where
  pub mid : Told
  pub opens : OpensTold status before mid
  pub ends : EndsTold status posts counts failed mid now

-- ---- the posts, which were all opened

-- STATUS wasn't opened
pub record OpensNoStatus (status : List ℕ) (before now : Told) (outcome : OutcomeView) : Type 0 where
  pub fault : Fault
  pub lacks : LacksStatus status before now fault
  pub outcome_is : outcome ≡ Failed fault

-- it was, and there was no memory for the relay
pub record WatchesNothing (status : List ℕ) (posts : ℕ) (before now : Told) (outcome : OutcomeView) : Type 0 where
  pub failed : Bool
  pub tells : TellsStatus status posts None failed before now
  pub outcome_is : outcome ≡ unless_failed failed (Failed faults.NoMemory)

-- the link was relayed to them
pub record WatchesRelay (capacity : ℕ) (status : List ℕ) (left later : Option (List Letter)) (fresh missed : ℕ) (before now : Told) (opened posts : List PostSeen) (outcome : OutcomeView) : Type 0 where
  pub end : RelayEnd
  pub counts : List PostCount
  pub relays : Relays capacity left later opened posts end counts
  pub read : HasCause fresh missed (end ≡ ends.Failed)
  pub failed : Bool
  pub tells : TellsStatus status (length opened) (Some counts) failed before now
  pub outcome_is : outcome ≡ outcome_with end (failed || list_any has_failed counts) counts

-- what was done with an open link, of which so many calls had failed, and with open posts
abbrev pub RunsOpened : ℕ → List ℕ → Option (List Letter) → Option (List Letter) → ℕ → ℕ → Told → Told → List PostSeen → List PostSeen → OutcomeView → Type 0
RunsOpened capacity status left later fresh missed before now opened posts outcome =
    (IsUnread left later fresh missed opened posts × (OpensNoStatus status before now outcome ⊎ WatchesNothing status (length opened) before now outcome))
    ⊎ WatchesRelay capacity status left later fresh missed before now opened posts outcome

-- ---- a run

-- the opening of a post was refused
pub record RefusesPost (names : List (List ℕ)) (left later : Option (List Letter)) (fresh missed : ℕ) (before now : Told) (posts : List PostSeen) (outcome : OutcomeView) : Type 0 where
  pub fault : Fault
  pub opens : OpensEach names before now posts (Err fault)
  pub unread : IsUnread left later fresh missed posts posts
  pub outcome_is : outcome ≡ Failed fault

-- all posts were opened
pub record OpensAllPosts (capacity : ℕ) (names : List (List ℕ)) (status : List ℕ) (left later : Option (List Letter)) (fresh missed : ℕ) (before now : Told) (posts : List PostSeen) (outcome : OutcomeView) : Type 0 where
  pub opened : List PostSeen
  pub mid : Told
  pub opens : OpensEach names before mid opened (Ok tt)
  pub runs : RunsOpened capacity status left later fresh missed mid now opened posts outcome

-- one of both
abbrev pub RunsPosts : ℕ → List (List ℕ) → List ℕ → Option (List Letter) → Option (List Letter) → ℕ → ℕ → Told → Told → List PostSeen → OutcomeView → Type 0
RunsPosts capacity names status left later fresh missed before now posts outcome =
    RefusesPost names left later fresh missed before now posts outcome ⊎ OpensAllPosts capacity names status left later fresh missed before now posts outcome

-- and then the posts were closed, and the link
pub record RunsLinked (capacity : ℕ) (names : List (List ℕ)) (status link : List ℕ) (left : Option (List Letter)) (before now : Told) (outcome : OutcomeView) : Type 0 where
  pub later : Option (List Letter)
  pub missed : ℕ
  pub mid : Told
  pub closed : Told
  pub posts : List PostSeen
  pub runs : RunsPosts capacity names status left later 0 missed before mid posts outcome
  pub closes_posts : ClosesPosts posts mid closed
  pub closes_link : ClosesLink link later missed closed now
