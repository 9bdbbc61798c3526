-- What is known once posts were opened.
use Rattle.std.specs.Prelude.{◌≡◌, ◌⊎◌, ℕ, ◌≤◌, List, [], ◌∷◌, length, map, take, IfSome, Result, Ok, Err}
use Rattle.tesla_desk.specs.Faults.{CountsOpening}
use Rattle.tesla_desk.specs.Outside.{Told, OfPost}
use Rattle.tesla_front.specs.Openings.{Opens}
use Rattle.tesla_front.specs.declared.fault.Fault.{Fault}
use Rattle.tesla_front.specs.declared.fault.Fault.TheVariants as faults
use Rattle.tesla_relay.specs.Posts.{PostSeen}

-- the name that a post was opened under
abbrev pub post_name : PostSeen → List ℕ
post_name post = post.name

-- none of the posts sent anything, and none failed
abbrev pub AreFresh : List PostSeen → Type 0
AreFresh [] = Unit {0}
AreFresh (post ∷ posts) = (IfSome post.sent (λ sent. sent ≡ []) × (post.faults ≡ 0)) × AreFresh posts

-- all were opened, and no count rose
pub record OpensAll (names : List (List ℕ)) (opened : ℕ) (posts : List PostSeen) (before now : Told) : Type 0 where
  pub all : opened ≡ length names
  pub names_are : map post_name posts ≡ names
  pub counts : now.faults ≡ before.faults

-- an opening was refused or found no memory, and only in the first case the count of openings rose
pub record OpensNotAll (fault : Fault) (before now : Told) : Type 0 where
  pub cause : (fault ≡ faults.Open) ⊎ (fault ≡ faults.NoMemory)
  pub counts : CountsOpening before.faults now.faults (fault ≡ faults.Open)

-- these new posts were opened, under the first of the names; what the desk tells is as before, but for its openings and their count
pub record OpensTo (names : List (List ℕ)) (posts : List PostSeen) (before now : Told) (result : Result (Unit {0}) Fault) : Type 0 where
  pub opened : ℕ
  pub few : opened ≤ length names
  pub opens : Opens (map OfPost names) opened before now
  pub live : now.live ≡ before.live
  pub pages : (name : List ℕ) → now.page name ≡ before.page name
  pub lefts : (name : List ℕ) → now.left name ≡ before.left name
  pub fresh : AreFresh posts
  pub names_are : map post_name posts ≡ take (length posts) names
  pub whole : result ≡ Ok tt → OpensAll names opened posts before now
  pub refused : (fault : Fault) → result ≡ Err fault → OpensNotAll fault before now
