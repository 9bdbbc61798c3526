-- Feeds and servers of several posts.
use Rattle.std.specs.Prelude.{◌≡◌, ℕ, ◌+◌, List, [], ◌∷◌, ◌++◌, length, Option, IfSome}
use Rattle.std.specs.Arc.{arc_value}
use Rattle.crossbeam_queue.specs.Passes.{IsPassOf}
use Rattle.tesla_desk.specs.Faults.{HasCause}
use Rattle.tesla_desk.specs.Links.{after_letters, datagrams}
use Rattle.tesla_desk.specs.declared.link.Letter.{Letter}
use Rattle.tesla_relay.specs.Posts.{PostSeen}
use Rattle.tesla_relay.specs.Due.{Basis}
use Rattle.tesla_relay.specs.Feeding.{Closed, Fed, HasServed, IsDone, IsFeeding, IsSameFeed, IsServing, Served, ServerSeen, ServesOn, came_in}
use Rattle.tesla_relay.specs.declared.feed.Feed.{Feed}
use Rattle.tesla_relay.specs.declared.relayed.RelayEnd.{RelayEnd}
use Rattle.tesla_relay.specs.declared.relayed.RelayEnd.TheVariants.{Ended, Failed}

-- the lists are as long, and the relation holds between what stands at the same place
abbrev pub Each : {A B : Type 0} → (A → B → Type 0) → List A → List B → Type 0
Each R [] [] = Unit {0}
Each R (x ∷ xs) (y ∷ ys) = R x y × Each R xs ys
Each R xs ys = ⊥

-- ---- feeds

abbrev pub AreFeeding : {X : Type 0} → List (Feed X) → Type 0
AreFeeding [] = Unit {0}
AreFeeding (feed ∷ feeds) = IsFeeding feed × AreFeeding feeds

-- so many datagrams came to each feed
abbrev pub HaveCome : {X : Type 0} → ℕ → List (Feed X) → Type 0
HaveCome number [] = Unit {0}
HaveCome number (feed ∷ feeds) = (feed.came ≡ came_in number) × HaveCome number feeds

-- these datagrams came to a feed, after those that came before
pub record FeedsOn {X : Type 0} (arrived : List (List ℕ)) (old new : Feed X) : Type 0 where
  pub feeding : IsFeeding new
  pub same : IsSameFeed old new
  pub fed : (before : List (List ℕ)) → Fed before old → Fed (before ++ arrived) new
  pub came : new.came ≡ came_in (old.came + length arrived)

-- these datagrams came to a feed, and then the end
pub record FeedsAll {X : Type 0} (arrived : List (List ℕ)) (old new : Feed X) : Type 0 where
  pub own : IsPassOf (arc_value new.line) new.pass
  pub same : IsSameFeed old new
  pub fed : (before : List (List ℕ)) → Fed before old → Closed (before ++ arrived) new

-- what left the link came to all feeds
pub record HearsOn {X : Type 0} (left later : Option (List Letter)) (olds news : List (Feed X)) : Type 0 where
  pub taken : List Letter
  pub left_is : left ≡ after_letters taken later
  pub feeds : Each (FeedsOn (datagrams taken)) olds news

-- and then the end, where the link has ended or failed
pub record HearsAll {X : Type 0} (end : RelayEnd) (left later : Option (List Letter)) (olds news : List (Feed X)) : Type 0 where
  pub taken : List Letter
  pub left_is : left ≡ after_letters taken later
  pub feeds : Each (FeedsAll (datagrams taken)) olds news
  pub ended : end ≡ Ended → IfSome later (λ rest. rest ≡ [])

-- the same, with what is told of the link besides
pub record HearsLink {X : Type 0} (end : RelayEnd) (left later : Option (List Letter)) (faults more : ℕ) (name named : List ℕ) (olds news : List (Feed X)) : Type 0 where
  pub hears : HearsAll end left later olds news
  pub cause : HasCause faults more (end ≡ Failed)
  pub name_is : named ≡ name

-- ---- servers

-- a server may take out, and has served its post
abbrev pub MayServe : Basis → ServerSeen → Type 0
MayServe basis server = IsServing server × HasServed basis server

abbrev pub AreServing : Basis → List ServerSeen → Type 0
AreServing basis [] = Unit {0}
AreServing basis (server ∷ servers) = MayServe basis server × AreServing basis servers

-- a server went on to the end
abbrev pub ServesAll : ServerSeen → ServerSeen → Type 0
ServesAll old new = ServesOn old new × IsDone new

-- ---- a feed and a server of one queue

-- nothing was put in yet, and nothing taken out
pub record Starts {X : Type 0} (capacity : ℕ) (start : PostSeen) (feed : Feed X) (server : ServerSeen) : Type 0 where
  pub feeding : IsFeeding feed
  pub fed : Fed [] feed
  pub came : feed.came ≡ 0
  pub capacity_is : feed.capacity ≡ capacity
  pub serving : IsServing server
  pub served : Served start server
  pub table : server.pass.table_id ≡ feed.pass.table_id

-- all was put in and taken out
pub record Ends {X : Type 0} (capacity : ℕ) (arrived : List (List ℕ)) (start : PostSeen) (feed : Feed X) (server : ServerSeen) : Type 0 where
  pub own : IsPassOf (arc_value feed.line) feed.pass
  pub closed : Closed arrived feed
  pub capacity_is : feed.capacity ≡ capacity
  pub serving : IsServing server
  pub served : Served start server
  pub done : IsDone server
  pub table : server.pass.table_id ≡ feed.pass.table_id
