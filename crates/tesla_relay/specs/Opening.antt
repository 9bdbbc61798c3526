-- What the opening and the closing of posts do to what a desk tells.
use Rattle.std.specs.Prelude.{◌≡◌, ◌⊎◌, ℕ, List, [], ◌∷◌, ◌++◌, IfSome, Result, Ok, Err}
use denote.Ref.{Bor}
use Rattle.tesla_desk.specs.Outside.{Told, OpensPost, ClosesPost}
use Rattle.tesla_desk.specs.declared.desk.OpenRefusal.{OpenRefusal}
use Rattle.tesla_front.specs.Fault.{unopened}
use Rattle.tesla_front.specs.declared.fault.Fault.{Fault}
use Rattle.tesla_relay.specs.Posts.{PostSeen}

-- the bytes of a name
abbrev pub name_of : Bor (List ℕ) → List ℕ
name_of name = name.now

-- ---- opening

-- a new post was opened under the name: it sent nothing and didn't fail
pub record OpensOne (name : List ℕ) (before now : Told) (post : PostSeen) : Type 0 where
  pub opens : OpensPost {A = Unit {0}} name (Ok tt) before now
  pub name_is : post.name ≡ name
  pub empty : IfSome post.sent (λ sent. sent ≡ [])
  pub fresh : post.faults ≡ 0

-- the opening of a post under the name was refused
abbrev pub RefusesOne : List ℕ → Told → Told → Fault → Type 0
RefusesOne name before now fault = (refusal : OpenRefusal) × OpensPost {A = Unit {0}} name (Err refusal) before now × (fault ≡ unopened refusal)

-- a post was opened under each of the names, in order, until an opening was refused
abbrev pub OpensEach : List (List ℕ) → Told → Told → List PostSeen → Result (Unit {0}) Fault → Type 0
OpensEach [] before now posts result = (posts ≡ []) × (now ≡ before) × (result ≡ Ok tt)
OpensEach (name ∷ names) before now posts result =
    ((fault : Fault) × RefusesOne name before now fault × (posts ≡ []) × (result ≡ Err fault))
    ⊎ ((post : PostSeen) × (others : List PostSeen) × (mid : Told) × (posts ≡ post ∷ others) × OpensOne name before mid post × OpensEach names mid now others result)

-- and those that were opened were put behind the others
abbrev pub OpensPosts : List (List ℕ) → Told → Told → List PostSeen → List PostSeen → Result (Unit {0}) Fault → Type 0
OpensPosts names before now old new result = (posts : List PostSeen) × (new ≡ old ++ posts) × OpensEach names before now posts result

-- ---- closing

-- the posts were closed, the last first
abbrev pub ClosesPosts : List PostSeen → Told → Told → Type 0
ClosesPosts [] before now = now ≡ before
ClosesPosts (post ∷ posts) before now = (mid : Told) × ClosesPosts posts before mid × ClosesPost post.name post.sent post.faults mid now
