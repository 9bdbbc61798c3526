-- What stands in a post's queue, and what its feed and server have done.
use Rattle.std.specs.Prelude.{◌≡◌, ℕ, ◌+◌, ◌-◌, ◌^◌, ◌≤◌, Bool, true, false, List, [], ◌∷◌, ◌++◌, length, take, min, flat_map}
use Rattle.std.specs.Arc.{arc_value}
use Rattle.std.specs.List.{AllByRecursion, Contains}
use Rattle.atomic_table.specs.Seated.{TableId}
use Rattle.crossbeam_queue.specs.Passes.{Pass, view, IsPassOf, ruled_capacity}
use Rattle.tesla_desk.specs.Faults.{HasCause}
use Rattle.tesla_desk.specs.Posts.{with_datagram}
use Rattle.tesla_relay.specs.Counts.{counted}
use Rattle.tesla_relay.specs.Due.{Basis}
use Rattle.tesla_relay.specs.Numbered.{AreBelow}
use Rattle.tesla_relay.specs.Posts.{PostSeen, with_datagrams}
use Rattle.tesla_relay.specs.Line.{numbered, put_log, popped_log}
use Rattle.tesla_relay.specs.Relay.{kept_of, dropped_in, DropsBehind}
use Rattle.tesla_relay.specs.declared.line.Log.{Log}
use Rattle.tesla_relay.specs.declared.line.Item.{Item}
use Rattle.tesla_relay.specs.declared.line.Item.TheVariants.{Datagram, End}
use Rattle.tesla_relay.specs.declared.feed.Feed.{Feed}

-- the datagram that an item is
abbrev pub text_in : Item → List (List ℕ)
text_in (Datagram number size bytes) = take size bytes.value ∷ []
text_in End = []

-- the datagrams among items
abbrev pub texts : List Item → List (List ℕ)
texts items = flat_map text_in items

abbrev pub IsDatagram : Item → Type 0
IsDatagram (Datagram number size bytes) = Unit {0}
IsDatagram End = ⊥

-- ---- the feed

-- so many came, as a feed counts them, whose count stands still at 2^62 - 2
abbrev pub came_in : ℕ → ℕ
came_in n = min n (2 ^ 62 - 2)

-- a feed may put in, and has counted what came: what it put in came before the next, and none was dropped while it had put in fewer than the queue holds
pub record IsFeeding {X : Type 0} (feed : Feed X) : Type 0 where
  pub own : IsPassOf (arc_value feed.line) feed.pass
  pub items : List Item
  pub view_is : view feed.pass ≡ put_log items
  pub counts : feed.came ≤ 2 ^ 62 - 2
  pub below : AreBelow feed.came (numbered items)
  pub first : min feed.came feed.capacity ≤ length items
  pub room : ruled_capacity (arc_value feed.line) ≡ feed.capacity + 1
  pub few : feed.capacity ≤ 4096

-- these items are what was kept of the datagrams that came
pub record Keeps (capacity : ℕ) (arrived : List (List ℕ)) (items : List Item) (dropped : ℕ) : Type 0 where
  pub marks : List Bool
  pub each : length marks ≡ length arrived
  pub full : DropsBehind capacity 0 marks
  pub texts_are : texts items ≡ kept_of marks arrived
  pub whole : AllByRecursion IsDatagram items
  pub dropped_is : dropped ≡ counted (dropped_in marks)

-- a feed put in what was kept of the datagrams that came
abbrev pub Fed : {X : Type 0} → List (List ℕ) → Feed X → Type 0
Fed arrived feed = (items : List Item) × (view feed.pass ≡ put_log items) × Keeps feed.capacity arrived items feed.dropped

-- and then the news that none follows
abbrev pub Closed : {X : Type 0} → List (List ℕ) → Feed X → Type 0
Closed arrived feed = (items : List Item) × (view feed.pass ≡ put_log (items ++ End ∷ [])) × Keeps feed.capacity arrived items feed.dropped

-- it is a feed of the same queue
pub record IsSameFeed {X : Type 0} (old new : Feed X) : Type 0 where
  pub table : new.pass.table_id ≡ old.pass.table_id
  pub capacity : new.capacity ≡ old.capacity
  pub post : new.post ≡ old.post

-- ---- the server

-- what is seen of a server: its post, its queue, its pass, how many it sent, and whether the post failed
pub record ServerSeen : Type 0 where
  pub post : PostSeen
  pub table : TableId
  pub pass : Pass Item Log
  pub sent : ℕ
  pub failed : Bool

-- a server may take out
pub record IsServing (server : ServerSeen) : Type 0 where
  pub table : server.pass.table_id ≡ server.table
  pub whole : server.pass.me.1 ≡ []
  pub popped : List Item
  pub view_is : view server.pass ≡ popped_log popped

-- a server sent, of the datagrams that it took out, all, or a prefix of them where the post failed
pub record Served (start : PostSeen) (server : ServerSeen) : Type 0 where
  pub popped : List Item
  pub view_is : view server.pass ≡ popped_log popped
  pub sends : ℕ
  pub few : sends ≤ length (texts popped)
  pub all : server.failed ≡ false → sends ≡ length (texts popped)
  pub sent : server.post.sent ≡ with_datagrams start.sent (take sends (texts popped))
  pub name : server.post.name ≡ start.name
  pub cause : HasCause start.faults server.post.faults (server.failed ≡ true)
  pub count : server.sent ≡ counted sends

-- a server has served the post that was seen so at the start of the relay
pub record HasServed (basis : Basis) (server : ServerSeen) : Type 0 where
  pub start : PostSeen
  pub among : Contains basis.posts start
  pub served : Served start server

-- a server handed a datagram to its post, unless that had failed
pub record SendsNext (datagram : List ℕ) (old new : ServerSeen) : Type 0 where
  pub table : new.table ≡ old.table
  pub pass : new.pass ≡ old.pass
  pub name : new.post.name ≡ old.post.name
  pub skipped : old.failed ≡ true → new ≡ old
  pub sent : old.failed ≡ false → new.failed ≡ false → (new.post.sent ≡ with_datagram old.post.sent datagram) × (new.sent ≡ counted (old.sent + 1))
  pub broken : old.failed ≡ false → new.failed ≡ true → (new.post.sent ≡ old.post.sent) × (new.sent ≡ old.sent)
  pub cause : old.failed ≡ false → HasCause old.post.faults new.post.faults (new.failed ≡ true)

-- the last item that it took out was the end
abbrev pub IsDone : ServerSeen → Type 0
IsDone server = (prefix : List Item) × (view server.pass ≡ popped_log (prefix ++ End ∷ []))

-- it is a server of the same queue
pub record IsSameServer (old new : ServerSeen) : Type 0 where
  pub table : new.table ≡ old.table
  pub pass : new.pass.table_id ≡ old.pass.table_id

-- a server went on
pub record ServesOn (old new : ServerSeen) : Type 0 where
  pub serving : IsServing new
  pub same : IsSameServer old new
  pub served : (start : PostSeen) → Served start old → Served start new
