-- A run of relay between the opening of its link and the closings.
use Rattle.std.specs.Prelude.{◌≡◌, ◌⊎◌, ℕ, List, Option, Result, Ok, Err, IfOk, MatchResult, OnErr}
use Rattle.std.specs.List.{list_any}
use Rattle.tesla_base.specs.declared.memory.NoMemory.{NoMemory}
use Rattle.tesla_desk.specs.Faults.{HasCause}
use Rattle.tesla_desk.specs.Outside.{ClosesLink, Told}
use Rattle.tesla_desk.specs.declared.link.Letter.{Letter}
use Rattle.tesla_front.specs.OutcomeView.{OutcomeView, Failed}
use Rattle.tesla_front.specs.declared.fault.Fault.{Fault}
use Rattle.tesla_front.specs.declared.fault.Fault.TheVariants as faults
use Rattle.tesla_relay.specs.Opening.{ClosesPosts, OpensEach}
use Rattle.tesla_relay.specs.Posts.{PostSeen}
use Rattle.tesla_relay.specs.Relay.{Relays}
use Rattle.tesla_relay.specs.declared.relayed.PostCount.{PostCount}
use Rattle.tesla_relay.specs.declared.relayed.Relayed.{Relayed}
use Rattle.tesla_relay.specs.declared.relayed.RelayEnd.{RelayEnd}
use Rattle.tesla_relay.specs.declared.relayed.RelayEnd.TheVariants as ends
use Rattle.tesla_run_relay.specs.Lines.{has_failed, outcome_with}

-- the opening of a post was refused, or there was no memory for the relay: nothing was read of the link, and the posts are new
pub record RunsNothing (names : List (List ℕ)) (left later : Option (List Letter)) (fresh missed : ℕ) (before now : Told) (posts : List PostSeen) (outcome : OutcomeView) : Type 0 where
  pub result : Result (Unit {0}) Fault
  pub opens : OpensEach names before now posts result
  pub fault : Fault
  pub why : (result ≡ Err fault) ⊎ ((result ≡ Ok tt) × (fault ≡ faults.NoMemory))
  pub outcome_is : outcome ≡ Failed fault
  pub left_is : later ≡ left
  pub missed_is : missed ≡ fresh

-- all posts were opened, and the link was relayed to them
pub record RunsRelay (capacity : ℕ) (names : List (List ℕ)) (left later : Option (List Letter)) (fresh missed : ℕ) (before now : Told) (posts : List PostSeen) (outcome : OutcomeView) : Type 0 where
  pub opened : List PostSeen
  pub opens : OpensEach names before now opened (Ok tt)
  pub end : RelayEnd
  pub counts : List PostCount
  pub relays : Relays capacity left later opened posts end counts
  pub read : HasCause fresh missed (end ≡ ends.Failed)
  pub outcome_is : outcome ≡ outcome_with end (list_any has_failed counts) counts

-- what was done with an open link, of which so many calls had failed, and with posts under these names
abbrev pub RunsPosts : ℕ → List (List ℕ) → Option (List Letter) → Option (List Letter) → ℕ → ℕ → Told → Told → List PostSeen → OutcomeView → Type 0
RunsPosts capacity names left later fresh missed before now posts outcome =
    RunsNothing names left later fresh missed before now posts outcome ⊎ RunsRelay capacity names left later fresh missed before now posts outcome

-- and then the posts were closed, and the link
pub record RunsLinked (capacity : ℕ) (names : List (List ℕ)) (link : List ℕ) (left : Option (List Letter)) (before now : Told) (outcome : OutcomeView) : Type 0 where
  pub later : Option (List Letter)
  pub missed : ℕ
  pub mid : Told
  pub closed : Told
  pub posts : List PostSeen
  pub runs : RunsPosts capacity names left later 0 missed before mid posts outcome
  pub closes_posts : ClosesPosts posts mid closed
  pub closes_link : ClosesLink link later missed closed now

-- ---- the relay itself

-- what the relay of an open link to open posts comes to: where there was no memory nothing was read, and the posts are as before
pub record RelaysOpen (capacity : ℕ) (left later : Option (List Letter)) (fresh missed : ℕ) (name named : List ℕ) (olds news : List PostSeen) (result : Result Relayed NoMemory) : Type 0 where
  pub relays : IfOk result (λ it. Relays capacity left later olds news it.end it.counts.items)
  pub unread : OnErr result (later ≡ left)
  pub untouched : OnErr result (news ≡ olds)
  pub cause : HasCause fresh missed (MatchResult result (λ it. it.end ≡ ends.Failed) (λ _. ⊥))
  pub name_is : named ≡ name
