-- What the inner steps of a feed over a list come to.
use Rattle.std.specs.Prelude.{◌≡◌, ℕ, Bool, true, false, List, [], ◌∷◌, ◌++◌, length, map, take, Option, Some, None, IfSome, Result, Ok, Err}
use Rattle.std.specs.List.{Contains}
use Rattle.tesla_relay.specs.Opened.{post_name}
use Rattle.tesla_relay.specs.Posts.{PostSeen}
use Rattle.tesla_commit.specs.Parts.{Parts}
use Rattle.tesla_sender.specs.Made.{Call, Stream}
use Rattle.tesla_sender.specs.declared.refusal.SendRefusal.{SendRefusal}
use Rattle.tesla_feed.specs.Due.{AreUnsent}
use Rattle.tesla_feed.specs.Fed.{Feeding}
use Rattle.tesla_feed.specs.Feed.{SendPosts}
use Rattle.tesla_feed.specs.Steps.{StandsFor}
use Rattle.tesla_feeds.specs.Fed.{AllDone, Done, Part}
use Rattle.tesla_feeds.specs.Order.{greatest_delay, handover_to}
use Rattle.tesla_feeds.specs.declared.listed.Handover.{Handover}
use Rattle.tesla_feeds.specs.declared.listed.ListedFeeder.{ListedFeeder}

-- ---- one stream

-- a stream of this setup hands over to one of the next setup by this
abbrev pub HandsTo : Handover → Parts → Parts → Type 0
HandsTo handover setup next =
    (handover.delay ≡ greatest_delay setup) × (handover.next ≡ next.times)
    × (handover.payload.items ≡ handover_to next)

-- or to none, where none follows
abbrev pub HandsOn : Option Handover → Parts → Option Parts → Type 0
HandsOn None setup None = Unit {0}
HandsOn (Some handover) setup (Some next) = HandsTo handover setup next
HandsOn None setup (Some next) = ⊥
HandsOn (Some handover) setup None = ⊥

-- the same of a stream
abbrev pub HandsOver : Option Handover → Stream → Option Parts → Type 0
HandsOver handover stream next = HandsOn handover stream.setup next

-- a feeder of the list remembers what it needs of what was made of its stream
pub record FeedsPart (now : ListedFeeder) (part : Part) : Type 0 where
  pub made : Feeding
  pub log_is : made.log ≡ part.log
  pub stands : StandsFor part.stream part.first now.feeder made
  pub handover : HandsOver now.handover part.stream part.next
  pub handed : now.handed ≡ part.handed

-- the same of each
abbrev pub FeedParts : List ListedFeeder → List Part → Type 0
FeedParts [] [] = Unit {0}
FeedParts (now ∷ nows) (part ∷ parts) = FeedsPart now part × FeedParts nows parts
FeedParts nows parts = ⊥

-- the frame of this size that was made, at the start of the room
abbrev pub frames_made : Option ℕ → List ℕ → List (List ℕ)
frames_made None frame = []
frames_made (Some size) frame = take size frame ∷ []

-- this was done with a stream, and the frame of it stands in the room: these calls were made, and this was refused
pub record DoesPart (done : Done) (calls : List Call) (refused : List SendRefusal) (now : ListedFeeder) (result : Option ℕ)
    : Type 0 where
  pub stands : FeedsPart now done.part
  pub frames : done.frames ≡ frames_made result now.feeder.frame
  pub calls_are : done.calls ≡ calls
  pub refused_are : done.refused ≡ refused

-- the call that was made, where one was
abbrev pub calls_made : Option ℕ → Call → List Call
calls_made None call = []
calls_made (Some size) call = call ∷ []

abbrev pub many_made : Option ℕ → ℕ
many_made None = 0
many_made (Some size) = 1

-- a handover was made, or none
pub record HandsPart (done : Done) (now : ListedFeeder) (result : Option ℕ) : Type 0 where
  pub does : DoesPart done done.calls [] now result
  pub count : length done.calls ≡ many_made result

-- the size of a message that was sent
abbrev pub size_said : Result ℕ SendRefusal → Option ℕ
size_said (Ok size) = Some size
size_said (Err refusal) = None

abbrev pub refused_by : {A : Type 0} → Result A SendRefusal → List SendRefusal
refused_by (Ok size) = []
refused_by (Err refusal) = refusal ∷ []

-- the call that was made, told whether one was
abbrev pub calls_where : Bool → Call → List Call
calls_where true call = call ∷ []
calls_where false call = []

abbrev pub calls_sent : Result Bool SendRefusal → Call → List Call
calls_sent (Ok sent) call = calls_where sent call
calls_sent (Err refusal) call = []

-- ---- posts

-- these frames were sent behind those that were sent before
abbrev pub SendOn : List (List ℕ) → List PostSeen → List PostSeen → List Bool → List Bool → Type 0
SendOn frames before now failed failed_now =
    (sent : List (List ℕ)) (firsts : List PostSeen) → SendPosts sent firsts before failed
    → SendPosts (sent ++ frames) firsts now failed_now

-- each post that hasn't failed may send these frames, one after another
pub record MaySendOn {P : Type 0} (seen : P → PostSeen) (may_send : P → List ℕ → Bool) (frames : List (List ℕ)) (posts : List P)
    (failed : List Bool) : Type 0 where
  -- what was sent before
  pub sent : List (List ℕ)
  pub firsts : List PostSeen
  pub unsent : AreUnsent firsts
  pub sends : SendPosts sent firsts (map seen posts) failed
  -- a post of these that sent that and the frames before one may send that one
  pub may : (before later : List (List ℕ)) (datagram : List ℕ) (post : P) → frames ≡ before ++ datagram ∷ later
      → Contains (map post_name firsts) (seen post).name → IfSome (seen post).sent (λ all. all ≡ sent ++ before)
      → may_send post datagram ≡ true

-- ---- all streams

-- this was done with all, and the frames were sent: these calls were made, and this was refused
pub record DoesAll (done : AllDone) (calls : List Call) (refused : List SendRefusal) (nows : List ListedFeeder)
    (posts posts_now : List PostSeen) (failed failed_now : List Bool) : Type 0 where
  pub stands : FeedParts nows done.parts
  pub sends : SendOn done.frames posts posts_now failed failed_now
  pub calls_are : done.calls ≡ calls
  pub refused_are : done.refused ≡ refused

-- the feeders stand for streams, and what is done with these may be sent
pub record MayDo {P : Type 0} (seen : P → PostSeen) (may_send : P → List ℕ → Bool) (feeders : List ListedFeeder)
    (done : List Part → AllDone) (posts : List P) (failed : List Bool) : Type 0 where
  pub parts : List Part
  pub stands : FeedParts feeders parts
  pub may : MaySendOn seen may_send (done parts).frames posts failed

-- a handover was made of the stream that is on, or none
abbrev pub many_where : Bool → ℕ
many_where true = 1
many_where false = 0

pub record HandsAll (done : AllDone) (sent : Bool) (nows : List ListedFeeder) (posts posts_now : List PostSeen)
    (failed failed_now : List Bool) : Type 0 where
  pub does : DoesAll done done.calls [] nows posts posts_now failed failed_now
  pub count : length done.calls ≡ many_where sent

-- more calls were made
abbrev pub with_calls : Feeding → List Call → Feeding
with_calls whole calls = record { log = whole.log ++ calls; refused = whole.refused; unread = whole.unread }

-- ---- each stream

-- this was done with one, and the frame was sent
pub record DoesOne (done : Done) (now : ListedFeeder) (posts posts_now : List PostSeen) (failed failed_now : List Bool) : Type 0 where
  pub stands : FeedsPart now done.part
  pub sends : SendOn done.frames posts posts_now failed failed_now
  pub refused_are : done.refused ≡ []

-- the feeder stands for a stream, and what is done with it may be sent
pub record MayDoOne {P : Type 0} (seen : P → PostSeen) (may_send : P → List ℕ → Bool) (feeder : ListedFeeder) (done : Part → Done)
    (posts : List P) (failed : List Bool) : Type 0 where
  pub part : Part
  pub stands : FeedsPart feeder part
  pub may : MaySendOn seen may_send (done part).frames posts failed
