-- What the inner calls of a take come to.
use Rattle.std.specs.Prelude.{◌≡◌, ◌<◌, ◌-◌, ℕ, true, List, [], ◌∷◌, Option, Some, None}
use Rattle.std.specs.List.{AllByRecursion}
use Rattle.tesla_follow.specs.declared.answers.FollowTake.{FollowTake}
use Rattle.tesla_follow.specs.Followed.{Accepted, Followed, TakesOne, after_early, reply_early}
use Rattle.tesla_follow.specs.Kept.{IsCalled}
use Rattle.tesla_follow.specs.Replies.{FollowKeepsBehind, follow_shown}
use Rattle.tesla_follow.specs.Stands.{FollowState, Keeps}

-- the first message that waited was given
pub record GivesFirst (it : Followed) (answer : FollowTake) (into : List ℕ) (new : FollowState) : Type 0 where
  pub first : Accepted
  pub others : List Accepted
  pub queue_is : it.queue ≡ first ∷ others
  pub answer_is : follow_shown answer into ≡ reply_early it first
  pub keeps : Keeps new (after_early it others)

-- a message was given, or none waited
abbrev pub GivesEarly : Followed → Option FollowTake → List ℕ → FollowState → FollowState → Type 0
GivesEarly it None into old new = (it.queue ≡ []) × (new ≡ old)
GivesEarly it (Some answer) into old new = GivesFirst it answer into new

-- a message was given in its turn, or it wasn't one's turn or none waited
abbrev pub GivesInTurn : Followed → Option FollowTake → List ℕ → FollowState → FollowState → Type 0
GivesInTurn it None into old new = (it.turn ≡ true → it.queue ≡ []) × (new ≡ old)
GivesInTurn it (Some answer) into old new = (it.turn ≡ true) × GivesFirst it answer into new

-- the first message that waited was given, and where none did this answer
abbrev pub GivesOr : Followed → List Accepted → FollowTake → FollowTake → List ℕ → FollowState → FollowState → Type 0
GivesOr it [] none answer into old new = (answer ≡ none) × (new ≡ old)
GivesOr it (first ∷ others) none answer into old new = (follow_shown answer into ≡ reply_early it first) × Keeps new (after_early it others)

abbrev pub OptionKeepsBehind : Option FollowTake → List ℕ → List ℕ → Type 0
OptionKeepsBehind None old new = new ≡ old
OptionKeepsBehind (Some answer) old new = FollowKeepsBehind answer old new

-- the answer, and what is kept, are these
abbrev pub IsTakenSo : TakesOne → FollowTake → List ℕ → FollowState → Type 0
IsTakenSo takes answer into new = (follow_shown answer into ≡ takes.reply) × Keeps new takes.after

-- no more is kept than before the call that is counted last
pub record IsEarlier (state : FollowState) : Type 0 where
  pub records : state.records < state.calls
  pub early : state.early < state.calls
  pub called : AllByRecursion (IsCalled (state.calls - 1)) state.receiving
