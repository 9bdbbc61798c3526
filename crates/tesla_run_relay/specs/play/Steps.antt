-- A run of play between its openings and its end.
use Rattle.std.specs.Prelude.{◌≡◌, ◌⊎◌, ℕ, List, [], Option, Ok, Err}
use Rattle.tesla_desk.specs.Clocks.{Ticking}
use Rattle.tesla_desk.specs.Faults.{HasCause}
use Rattle.tesla_desk.specs.Live.{clock_told}
use Rattle.tesla_desk.specs.Outside.{ClosesSource, MakesClock, Told}
use Rattle.tesla_front.specs.OutcomeView.{OutcomeView, Failed}
use Rattle.tesla_front.specs.declared.fault.Fault.{Fault}
use Rattle.tesla_relay.specs.Play.{Plays}
use Rattle.tesla_relay.specs.declared.playing.PlayEnd.{PlayEnd}
use Rattle.tesla_relay.specs.declared.playing.PlayEnd.TheVariants.{ReadFault}
use Rattle.tesla_relay.specs.Opening.{ClosesPosts, OpensPosts}
use Rattle.tesla_relay.specs.Posts.{PostSeen}
use Rattle.tesla_run_relay.specs.play.Playing.{outcome_with}

-- an open source was played to open posts, with a clock that was made for it
pub record PlaysMade (end : PlayEnd) (left later : Option (List ℕ)) (posts posts_now : List PostSeen) (before now : Told) : Type 0 where
  pub after : Option Ticking
  pub plays : Plays end left later (clock_told before.live.readings before.live.made) after posts posts_now
  pub makes : MakesClock before now

-- the opening of a post was refused, and the source is as before
pub record Refuses (names : List (List ℕ)) (left later : Option (List ℕ)) (missed missed_now : ℕ) (before now : Told) (posts : List PostSeen) (outcome : OutcomeView) : Type 0 where
  pub fault : Fault
  pub opens : OpensPosts names before now [] posts (Err fault)
  pub same : (later ≡ left) × (missed_now ≡ missed)
  pub outcome_is : outcome ≡ Failed fault

-- the posts were opened, and the source was played to them
pub record PlaysOpen (names : List (List ℕ)) (left later : Option (List ℕ)) (missed missed_now : ℕ) (before now : Told) (posts : List PostSeen) (outcome : OutcomeView) : Type 0 where
  pub opened : Told
  pub fresh : List PostSeen
  pub opens : OpensPosts names before opened [] fresh (Ok tt)
  pub end : PlayEnd
  pub made : PlaysMade end left later fresh posts opened now
  pub read : HasCause missed missed_now (end ≡ ReadFault)
  pub outcome_is : outcome ≡ outcome_with end

-- one of both
abbrev pub OpensAndPlays : List (List ℕ) → Option (List ℕ) → Option (List ℕ) → ℕ → ℕ → Told → Told → List PostSeen → OutcomeView → Type 0
OpensAndPlays names left later missed missed_now before now posts outcome = Refuses names left later missed missed_now before now posts outcome ⊎ PlaysOpen names left later missed missed_now before now posts outcome

-- the posts were opened and played to, and then all was closed, the posts first
pub record RunsOpened (names : List (List ℕ)) (capture : List ℕ) (left : Option (List ℕ)) (old new : Told) (outcome : OutcomeView) : Type 0 where
  pub later : Option (List ℕ)
  -- so often a read failed
  pub missed : ℕ
  pub posts : List PostSeen
  pub tried : Told
  pub tries : OpensAndPlays names left later 0 missed old tried posts outcome
  pub closed : Told
  pub posts_closed : ClosesPosts posts tried closed
  pub source_closed : ClosesSource capture later missed closed new
