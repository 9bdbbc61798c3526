-- What the inner steps of feed come to.
use Rattle.std.specs.Prelude.{◌≡◌, ◌⊎◌, ℕ, ◌+◌, ◌*◌, Bool, true, false, Option, Some, None, List, [], ◌∷◌, ◌++◌, ◌≤◌, length, map, Result, Ok, Err}
use Rattle.std.specs.List.{list_all}
use Rattle.tesla_clock.specs.Schedule.{Times}
use Rattle.tesla_commit.specs.Parts.{Parts}
use Rattle.tesla_desk.specs.Clocks.{Ticking}
use Rattle.tesla_base.specs.declared.names.Key.{Key}
use Rattle.tesla_desk.specs.Faults.{Faults, HasCause, HasCauses, HasCausesBeside}
use Rattle.tesla_desk.specs.Live.{clock_told}
use Rattle.tesla_desk.specs.Outside.{ClosesLink, ClosesSink, MakesClock, OfSource, OpensSink, Told}
use Rattle.tesla_desk.specs.declared.desk.OpenRefusal.{OpenRefusal}
use Rattle.tesla_desk.specs.declared.link.Letter.{Letter}
use Rattle.tesla_feeds.specs.Feeds.{ComesTo}
use Rattle.tesla_feeds.specs.Notes.{Note}
use Rattle.tesla_feed.specs.Due.{AreUnsent}
use Rattle.tesla_feed.specs.Feed.{OpensAt}
use Rattle.tesla_feeds.specs.Due.{IsWholeGiven, MayNoteAll, MaySendDue}
use Rattle.tesla_feeds.specs.Later.{IsOpenFeed, OpensFeeds, last_streams}
use Rattle.tesla_feeds.specs.Opening.{first_setup, streams_fed}
use Rattle.tesla_feeds.specs.Steps.{HandsOn, HandsOver}
use Rattle.tesla_feeds.specs.declared.events.FeedsCounts.{FeedsCounts}
use Rattle.tesla_feeds.specs.declared.feeding.FeedsEnd.{FeedsEnd}
use Rattle.tesla_feeds.specs.declared.listed.Handover.{Handover}
use Rattle.tesla_feeds.specs.declared.opening.ListedSender.{ListedSender}
use Rattle.tesla_feeds.specs.declared.opening.OpenFeeds.{OpenFeeds}
use Rattle.tesla_front.specs.Fault.{unopened}
use Rattle.tesla_front.specs.OutcomeView.{OutcomeView, Failed}
use Rattle.tesla_front.specs.Openings.{AnyFailed, Opens, files_told}
use Rattle.tesla_front.specs.declared.fault.Fault.{Fault}
use Rattle.tesla_front.specs.declared.fault.Fault.TheVariants as faults
use Rattle.tesla_relay.specs.Opened.{post_name}
use Rattle.tesla_relay.specs.Opening.{ClosesPosts, OpensPosts}
use Rattle.tesla_relay.specs.Posts.{PostSeen}
use Rattle.tesla_run_feed.specs.Arguments.{FeedArguments, StatusArguments, live_files, sources, sources_of}
use Rattle.tesla_run_feed.specs.Feeding.{FeedsStreams, LackSenders, LacksFirst, LacksList, LacksSoundSeeds, TouchesLive, behind_first, pages_of, status_page, weak_seed}
use Rattle.tesla_run_feed.specs.Lines.{outcome_with, streams_over}
use Rattle.tesla_run_feed.specs.Listing.{HaveSeeds, IsFirstRight, IsRight, all_times, are_several, is_right_stream, list_fault, streams_in}
use Rattle.tesla_run_feed.specs.Status.{HasAllLines}
use Rattle.tesla_run_feed.specs.declared.listing.SeededSetups.{SeededSetups}
use Rattle.tesla_run_feed.specs.declared.telling.Telling.{Telling}
use Rattle.tesla_run_send.specs.Sender.{ReadsStream}
use Rattle.tesla_seeds.specs.Weak.{AreSound, IsFirstWeak}
use Rattle.tesla_seeds.specs.declared.weak.WeakSeed.{WeakSeed}
use Rattle.tesla_sender.specs.Made.{Stream}
use Rattle.tesla_sender.specs.Stands.{Stands}

-- ---- the seeds

-- the first seed that gives no safety is told
pub record IsWeak (seeds : List Key) (outcome : OutcomeView) : Type 0 where
  pub chain : ℕ
  pub kind : WeakSeed
  pub weak : IsFirstWeak seeds chain kind
  pub outcome_is : outcome ≡ weak_seed chain kind

-- the setup and the seeds were read, and these are sound; all else is as before
pub record ReadsSound (setup secret : List ℕ) (stream : Stream) (old new : Told) : Type 0 where
  pub reads : ReadsStream setup secret stream old new
  pub sound : AreSound stream.seeds

-- there are no sound seeds, so many of both were opened, and each failure raised its count
pub record ReadsNoSound (setup secret : List ℕ) (outcome : OutcomeView) (old new : Told) : Type 0 where
  pub opened : ℕ
  pub few : opened ≤ 2
  pub opens : Opens (OfSource setup ∷ OfSource secret ∷ []) opened old new
  pub live : new.live ≡ old.live
  pub why : LacksSoundSeeds (old.page setup) (old.page secret) opened outcome
  pub causes : HasCauses old.faults new.faults (outcome ≡ Failed faults.Read) (outcome ≡ Failed faults.Write) (outcome ≡ Failed faults.Open)

-- ---- the list

-- each setup was read with its seeds, in order, and these are sound; all else is as before
abbrev pub ReadsEach : List (List ℕ) → List (List ℕ) → List Stream → Told → Told → Type 0
ReadsEach [] [] [] old new = new ≡ old
ReadsEach (setup ∷ setups) (secret ∷ secrets) (stream ∷ streams) old new =
    (mid : Told) × ReadsSound setup secret stream old mid × ReadsEach setups secrets streams mid new
ReadsEach setups secrets streams old new = ⊥

-- the first setup that has no sound seeds was the last that was read
abbrev pub ReadsNotEach : List (List ℕ) → List (List ℕ) → OutcomeView → Told → Told → Type 0
ReadsNotEach (setup ∷ setups) (secret ∷ secrets) outcome old new =
    ReadsNoSound setup secret outcome old new
    ⊎ ((stream : Stream) × (mid : Told) × ReadsSound setup secret stream old mid × ReadsNotEach setups secrets outcome mid new)
ReadsNotEach setups secrets outcome old new = ⊥

-- these were read, and put behind those that were before
pub record PutsEach (setups secrets : List (List ℕ)) (first now : List Stream) (old new : Told) : Type 0 where
  pub streams : List Stream
  pub is : now ≡ first ++ streams
  pub reads : ReadsEach setups secrets streams old new

-- a list of streams was read
pub record ReadsList (setups secrets : List (List ℕ)) (streams : List Stream) (old new : Told) : Type 0 where
  pub reads : ReadsEach setups secrets streams old new
  pub fits : list_fault streams ≡ None

-- there is no list of streams, so many of the files were opened, and each failure raised its count
pub record ReadsNoList (setups secrets : List (List ℕ)) (outcome : OutcomeView) (old new : Told) : Type 0 where
  pub opened : ℕ
  pub opens : Opens (sources setups secrets) opened old new
  pub few : opened ≤ length (sources setups secrets)
  pub live : new.live ≡ old.live
  pub why : LacksList setups (pages_of (files_told old (sources setups secrets))) (length (sources setups secrets)) opened outcome
  pub causes : HasCauses old.faults new.faults (outcome ≡ Failed faults.Read) (outcome ≡ Failed faults.Write) (outcome ≡ Failed faults.Open)

-- ---- the senders

-- how the first stream of these setups hands over to the second
abbrev pub HandsFirst : Option Handover → List Parts → Type 0
HandsFirst handover [] = handover ≡ None
HandsFirst handover (setup ∷ setups) = HandsOn handover setup (first_setup setups)

-- the sender of the first of these streams was opened, and these are the setups and seeds of those behind it
pub record OpensFirst (streams : List Stream) (first : ListedSender) (behind : SeededSetups) : Type 0 where
  pub streams_are : streams ≡ first.sender.stream ∷ streams_in behind
  pub fresh : Stands first.sender []
  pub right : IsRight first.sender.stream
  pub hands : HandsOver first.handover first.sender.stream (first_setup behind.setups.items)
  pub each : length behind.seeds.items ≡ length behind.setups.items
  pub have : HaveSeeds (streams_in behind)
  pub few : length (streams_in behind) ≤ 16

-- the streams of a feed that is open, told the setups and seeds of those whose senders aren't there
abbrev pub streams_ready : OpenFeeds → SeededSetups → List Stream
streams_ready opened later = streams_fed opened.feeders ++ streams_in later

-- a feed is open, the seeds of the streams that have senders are right, and each of the others has seeds
pub record IsReady (opened : OpenFeeds) (later : SeededSetups) : Type 0 where
  pub is_open : IsOpenFeed opened (streams_in later)
  pub right : list_all is_right_stream (streams_fed opened.feeders) ≡ true
  pub each : length later.seeds.items ≡ length later.setups.items
  pub have : HaveSeeds (streams_in later)
  pub few : length (streams_in later) ≤ 16

-- ---- the opening

-- the sender of the first of the streams wasn't opened, and nothing else was done
pub record LacksSender (streams : List Stream) (posts : List PostSeen) (before now : Told) (outcome : OutcomeView) : Type 0 where
  pub none : posts ≡ []
  pub same : now ≡ before
  pub why : LacksFirst streams outcome

-- a clock was made that tells this by now, and at its first reading that could be had a feed of the streams was opened, or all are over
pub record OpensByClock (streams : List Stream) (feed : Option OpenFeeds) (ticking : Option Ticking) (before now : Told) : Type 0 where
  pub opening : ℕ
  pub opens_at : OpensAt opening (clock_told before.live.readings before.live.made) ticking
  pub first : Stream
  pub streams_are : streams ≡ first ∷ behind_first streams
  pub opens : OpensFeeds opening first (behind_first streams) feed
  pub makes : MakesClock before now

-- a feed was opened so, and then a post under each of the names, until an opening was refused
pub record OpensFeeding (streams : List Stream) (names : List (List ℕ)) (feed : OpenFeeds) (ticking : Option Ticking) (posts : List PostSeen) (result : Result (Unit {0}) Fault) (before now : Told) : Type 0 where
  pub clocked : Told
  pub opens : OpensByClock streams (Some feed) ticking before clocked
  pub posts_open : OpensPosts names clocked now [] posts result

-- the same, with the setups and seeds of the streams whose senders weren't there
pub record OpensReady (streams : List Stream) (names : List (List ℕ)) (feed : OpenFeeds) (later : SeededSetups) (ticking : Option Ticking) (posts : List PostSeen) (before now : Told) : Type 0 where
  pub opens : OpensFeeding streams names feed ticking posts (Ok tt) before now
  pub later_is : streams_in later ≡ last_streams (length feed.later.items) (behind_first streams)
  pub ready : IsReady feed later

-- all streams were over: no post was opened
pub record StopsOver (streams : List Stream) (posts : List PostSeen) (before now : Told) (outcome : OutcomeView) : Type 0 where
  pub ticking : Option Ticking
  pub opens : OpensByClock streams None ticking before now
  pub none : posts ≡ []
  pub outcome_is : outcome ≡ streams_over

-- there was no memory for the feed once a clock was made: no post was opened
pub record StopsRoomless (posts : List PostSeen) (before now : Told) (outcome : OutcomeView) : Type 0 where
  pub makes : MakesClock before now
  pub none : posts ≡ []
  pub outcome_is : outcome ≡ Failed faults.NoMemory

-- the opening of a post was refused
pub record RefusesPost (streams : List Stream) (names : List (List ℕ)) (posts : List PostSeen) (before now : Told) (outcome : OutcomeView) : Type 0 where
  pub feed : OpenFeeds
  pub ticking : Option Ticking
  pub fault : Fault
  pub opens : OpensFeeding streams names feed ticking posts (Err fault) before now
  pub outcome_is : outcome ≡ Failed fault

-- with the sender of the first stream not all was opened
abbrev pub OpensNoFeeding : List Stream → List (List ℕ) → List PostSeen → Told → Told → OutcomeView → Type 0
OpensNoFeeding streams names posts before now outcome =
    StopsOver streams posts before now outcome ⊎ StopsRoomless posts before now outcome ⊎ RefusesPost streams names posts before now outcome

-- the first stream has no sender; or it has, since its seeds are right, and not all was opened
abbrev pub IsUnready : List Stream → List (List ℕ) → List PostSeen → Told → Told → OutcomeView → Type 0
IsUnready streams names posts before now outcome =
    LacksSender streams posts before now outcome ⊎ (IsFirstRight streams × OpensNoFeeding streams names posts before now outcome)

-- ---- STATUS

-- what counts are told by, where nothing is said of that
abbrev pub no_telling : Telling
no_telling = record { schedules = []; opening = 0; every = 0; name = [] }

-- the opening of STATUS was refused
abbrev pub RefusesStatus : Option StatusArguments → Told → Told → Fault → Type 0
RefusesStatus None before now fault = ⊥
RefusesStatus (Some status) before now fault = (refusal : OpenRefusal) × OpensSink {A = Unit {0}} status.output (Err refusal) before now × (fault ≡ unopened refusal)

-- STATUS was opened, the lines of these notes and of all counts were written to it, and it was closed
pub record WritesLines (status : StatusArguments) (times : List Times) (opening : ℕ) (counts : FeedsCounts) (before now : Told) (failed : Bool) (notes : List Note) : Type 0 where
  pub opened : Told
  pub opens : OpensSink {A = Unit {0}} status.output (Ok tt) before opened
  pub written : Option (List ℕ)
  pub faults : ℕ
  pub lines : HasAllLines times (status.every * 1000000) opening notes counts written faults failed
  pub closes : ClosesSink status.output written faults opened now

-- the same where there is a STATUS; where there is none it didn't fail
abbrev pub WritesStatus : Option StatusArguments → List Times → ℕ → FeedsCounts → Told → Told → Bool → List Note → Type 0
WritesStatus None times opening counts before now failed notes = (now ≡ before) × (failed ≡ false)
WritesStatus (Some status) times opening counts before now failed notes = WritesLines status times opening counts before now failed notes

-- ---- the link and the posts

-- an open link was fed to open posts, told which seeds are right, with a clock that told this before, or the run was asked to end; this was told of the counts
pub record FeedsPosts (right : Stream → Bool) (over : Bool) (streams : List Stream) (opening : ℕ) (end : FeedsEnd) (left later : Option (List Letter)) (ticking : Option Ticking) (posts posts_now : List PostSeen) (was_told : List Note → Type 0) : Type 0 where
  pub after : Option Ticking
  pub comes : ComesTo right over streams opening end left later ticking after posts posts_now was_told

-- what is known before a feed that was opened is fed to open posts, told the streams whose senders aren't there
pub record MayFeed {P N : Type 0} (right : Stream → Bool) (seen : P → PostSeen) (may_send : P → List ℕ → Bool) (was_told : N → List Note → Type 0) (may_note : N → Note → Type 0) (gave : ℕ → Bool) (read_for : ℕ → List ℕ → ℕ → Bool) (opened : OpenFeeds) (left : List Stream) (posts : List P) (notes : N) : Type 0 where
  pub is_open : IsOpenFeed opened left
  pub right_first : list_all right (streams_fed opened.feeders) ≡ true
  pub few : length posts ≤ 32
  pub given : gave opened.opening ≡ true
  pub unsent : AreUnsent (map seen posts)
  pub due : MaySendDue right seen may_send gave read_for (map post_name (map seen posts)) (streams_fed opened.feeders ++ left)
  pub untold : was_told notes []
  pub noting : MayNoteAll right was_told may_note gave read_for (streams_fed opened.feeders ++ left)

-- what is known afterwards
pub record FeedsHeld (right : Stream → Bool) (over : Bool) (gave : ℕ → Bool) (read_for : ℕ → List ℕ → ℕ → Bool) (opened : OpenFeeds) (behind : List Stream) (end : FeedsEnd) (left later : Option (List Letter)) (ticking : Option Ticking) (posts posts_now : List PostSeen) (was_told : List Note → Type 0) : Type 0 where
  pub fed : FeedsPosts right over (streams_fed opened.feeders ++ behind) opened.opening end left later ticking posts posts_now was_told
  pub given : IsWholeGiven right gave read_for (streams_fed opened.feeders ++ behind) end.counts was_told

-- that, and STATUS was written meanwhile, told the intervals of all streams of the list, and the streams whose senders weren't there at first
pub record FeedsCounted (over : Bool) (times : List Times) (streams behind : List Stream) (opening : ℕ) (status : Option StatusArguments) (left later : Option (List Letter)) (missed missed_now : ℕ) (ticking : Option Ticking) (before now : Told) (posts posts_now : List PostSeen) (outcome : OutcomeView) : Type 0 where
  pub end : FeedsEnd
  pub status_failed : Bool
  pub fed : FeedsPosts is_right_stream over streams opening end left later ticking posts posts_now (WritesStatus status times opening end.counts before now status_failed)
  pub read : HasCause missed missed_now (end.link_failed ≡ true)
  -- what a lacking sender comes to
  pub lack : OutcomeView
  pub lacks : end.lacking ≡ true → LackSenders behind lack
  pub outcome_is : outcome ≡ outcome_with (are_several times) end status_failed lack

-- STATUS wasn't opened, and the link and the posts are as before
pub record LacksStatus (status : Option StatusArguments) (left later : Option (List Letter)) (missed missed_now : ℕ) (before now : Told) (posts posts_now : List PostSeen) (outcome : OutcomeView) : Type 0 where
  pub fault : Fault
  pub refuses : RefusesStatus status before now fault
  pub unheard : (later ≡ left) × (missed_now ≡ missed)
  pub unsent : posts_now ≡ posts
  pub outcome_is : outcome ≡ Failed fault

-- what is done with a link and posts that are open
abbrev pub FeedsReady : Bool → List Times → List Stream → List Stream → ℕ → Option StatusArguments → Option (List Letter) → Option (List Letter) → ℕ → ℕ → Option Ticking → Told → Told → List PostSeen → List PostSeen → OutcomeView → Type 0
FeedsReady over times streams behind opening status left later missed missed_now ticking before now posts posts_now outcome =
    LacksStatus status left later missed missed_now before now posts posts_now outcome
    ⊎ FeedsCounted over times streams behind opening status left later missed missed_now ticking before now posts posts_now outcome

-- the posts were opened, and that was done
pub record FeedsOpen (over : Bool) (streams : List Stream) (names : List (List ℕ)) (status : Option StatusArguments) (left later : Option (List Letter)) (missed missed_now : ℕ) (before now : Told) (posts : List PostSeen) (outcome : OutcomeView) : Type 0 where
  pub feed : OpenFeeds
  pub ticking : Option Ticking
  pub fresh : List PostSeen
  pub opened : Told
  pub opens : OpensFeeding streams names feed ticking fresh (Ok tt) before opened
  -- the streams whose senders weren't there
  pub behind : List Stream
  pub behind_is : behind ≡ last_streams (length feed.later.items) (behind_first streams)
  pub feeds : FeedsReady over (all_times streams) (streams_fed feed.feeders ++ behind) behind feed.opening status left later missed missed_now ticking opened now fresh posts outcome

-- that, and the seeds of the first stream are right; or not all posts were opened, and the link is as before
abbrev pub TriesToFeed : Bool → List Stream → List (List ℕ) → Option StatusArguments → Option (List Letter) → Option (List Letter) → ℕ → ℕ → Told → Told → List PostSeen → OutcomeView → Type 0
TriesToFeed over streams names status left later missed missed_now before now posts outcome =
    (IsUnready streams names posts before now outcome × (later ≡ left) × (missed_now ≡ missed))
    ⊎ (IsFirstRight streams × FeedsOpen over streams names status left later missed missed_now before now posts outcome)

-- and then all was closed, the posts first
pub record RunsLinked (over : Bool) (streams : List Stream) (names : List (List ℕ)) (status : Option StatusArguments) (link : List ℕ) (left : Option (List Letter)) (old new : Told) (outcome : OutcomeView) : Type 0 where
  pub later : Option (List Letter)
  -- so often a call of the link failed
  pub missed : ℕ
  pub posts : List PostSeen
  pub tried : Told
  pub tries : TriesToFeed over streams names status left later 0 missed old tried posts outcome
  pub closed : Told
  pub posts_closed : ClosesPosts posts tried closed
  pub link_closed : ClosesLink link later missed closed new

-- ---- the files

-- each failure raised its count, and no other count rose; only behind a failed link a post or STATUS may have failed too
abbrev pub Counts : FeedArguments → Faults → Told → OutcomeView → Type 0
Counts arguments before new outcome =
    HasCausesBeside ((outcome ≡ Failed faults.Read) × AnyFailed (live_files arguments) new) before new.faults (outcome ≡ Failed faults.Read) (outcome ≡ Failed faults.Write) (outcome ≡ Failed faults.Open)

-- with a list of streams the link was fed to the posts, after it was opened and then they were
pub record FeedsFiles (over : Bool) (streams : List Stream) (arguments : FeedArguments) (old new : Told) (outcome : OutcomeView) : Type 0 where
  pub opened : ℕ
  pub opens : Opens (live_files arguments) opened old new
  pub touches : TouchesLive arguments.link arguments.posts old.live new.live
  pub does : FeedsStreams over arguments streams (length (sources_of arguments) + opened) old.live new.live (status_page arguments old) (status_page arguments new) outcome
  pub counts : Counts arguments old.faults new outcome
