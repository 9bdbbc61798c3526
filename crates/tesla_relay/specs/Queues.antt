-- The queues before posts, from their making to the counts.
use Rattle.std.specs.Prelude.{◌≡◌, ℕ, true, List, [], ◌∷◌, ◌++◌}
use Rattle.std.specs.Arc.{arc_value}
use Rattle.crossbeam_queue.specs.Passes.{view, IsPassOf}
use Rattle.tesla_relay.specs.Posts.{PostSeen}
use Rattle.tesla_relay.specs.Feeding.{Fed, IsFeeding, ServerSeen}
use Rattle.tesla_relay.specs.Line.{popped_log}
use Rattle.tesla_relay.specs.Lists.{Ends, Starts}
use Rattle.tesla_relay.specs.declared.feed.Feed.{Feed}
use Rattle.tesla_relay.specs.declared.queues.Queue.{Queue}
use Rattle.tesla_relay.specs.declared.relayed.PostCount.{PostCount}

-- a queue into which nothing was put yet, and from which nothing was taken
pub record IsNew {X : Type 0} (capacity : ℕ) (queue : Queue X) : Type 0 where
  pub feeding : IsFeeding queue.feed
  pub fed : Fed [] queue.feed
  pub came : queue.feed.came ≡ 0
  pub capacity_is : queue.feed.capacity ≡ capacity
  pub own : IsPassOf (arc_value queue.line) queue.pass
  pub view_is : view queue.pass ≡ popped_log []
  pub table : queue.pass.table_id ≡ queue.feed.pass.table_id

abbrev pub AreNew : {X : Type 0} → ℕ → List (Queue X) → Type 0
AreNew capacity [] = Unit {0}
AreNew capacity (queue ∷ queues) = IsNew capacity queue × AreNew capacity queues

-- feeds and servers stand in the order of the posts from the last to the first, and the relation holds of what belongs together
abbrev pub Backwards : {X : Type 0} → (PostSeen → Feed X → ServerSeen → Type 0) → List PostSeen → List (Feed X) → List ServerSeen → Type 0
Backwards {X} R [] feeds servers = (feeds ≡ []) × (servers ≡ [])
Backwards {X} R (post ∷ posts) feeds servers =
    (prefix : List (Feed X)) × (feed : Feed X) × (others : List ServerSeen) × (server : ServerSeen)
    × (feeds ≡ prefix ++ feed ∷ []) × (servers ≡ others ++ server ∷ []) × R post feed server × Backwards R posts prefix others

-- before the run, and after it
abbrev pub Starting : {X : Type 0} → ℕ → List PostSeen → List (Feed X) → List ServerSeen → Type 0
Starting capacity posts feeds servers = Backwards (Starts capacity) posts feeds servers

abbrev pub Ending : {X : Type 0} → ℕ → List (List ℕ) → List PostSeen → List (Feed X) → List ServerSeen → Type 0
Ending capacity arrived posts feeds servers = Backwards (Ends capacity arrived) posts feeds servers

-- those of these posts were added behind those before
abbrev pub Adds : {X : Type 0} → (List PostSeen → List (Feed X) → List ServerSeen → Type 0) → List PostSeen → List (Feed X) → List (Feed X) → List ServerSeen → List ServerSeen → Type 0
Adds {X} R posts feeds more servers others = (own : List (Feed X)) × (ours : List ServerSeen) × (more ≡ feeds ++ own) × (others ≡ servers ++ ours) × R posts own ours

-- the posts were put behind those before, and their counts too
abbrev pub GivesBack : (List PostSeen → List PostSeen → List PostCount → Type 0) → List PostSeen → List PostSeen → List PostSeen → List PostCount → List PostCount → Type 0
GivesBack R olds posts more counts others = (news : List PostSeen) × (ours : List PostCount) × (more ≡ posts ++ news) × (others ≡ counts ++ ours) × R olds news ours

-- the passes of a feed and a server are of one queue, and may be given up
pub record IsEnding {X : Type 0} (feed : Feed X) (server : ServerSeen) : Type 0 where
  pub own : IsPassOf (arc_value feed.line) feed.pass
  pub table : server.pass.table_id ≡ feed.pass.table_id
  pub whole : server.pass.me.1 ≡ []
  pub puts : (view feed.pass).puts ≡ true
  pub pops : (view server.pass).pops ≡ true
