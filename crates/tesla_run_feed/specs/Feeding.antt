-- What feed comes to, what posts send, and what STATUS holds.
use Rattle.std.specs.Prelude.{codes, ◌≡◌, ◌≢◌, ◌⊎◌, ℕ, suc, ◌+◌, ◌*◌, ◌≤◌, Bool, true, false, ◌||◌, List, [], ◌∷◌, ◌++◌, flat_map, length, map, take, Option, Some, None}
use Rattle.std.specs.List.{AllByRecursion, list_all, list_any}
use Rattle.std.specs.Option.{option_map}
use Rattle.tesla_clock.specs.Schedule.{Times}
use Rattle.tesla_desk.specs.Faults.{raised}
use Rattle.tesla_desk.specs.Live.{Live, Remainder, LeavesAll, Mail}
use Rattle.tesla_desk.specs.Outside.{Absent, Holds, Page, Told, Untold}
use Rattle.tesla_feed.specs.Fed.{Event, is_unread, reading_of}
use Rattle.tesla_feed.specs.Feed.{Heard, received_of, events_of, has_failed, letter_of, rested_at}
use Rattle.tesla_feeds.specs.Fed.{Fed, fed_all, lasting}
use Rattle.tesla_feeds.specs.Feeds.{AreNeeded}
use Rattle.tesla_feeds.specs.Later.{IsLostAt, are_right_where_used, last_streams, letters_in}
use Rattle.tesla_feeds.specs.Notes.{Note, all_counts, notes_of}
use Rattle.tesla_feeds.specs.Opening.{first_lasts, opened_at, some_begun}
use Rattle.tesla_feeds.specs.Waits.{are_told}
use Rattle.tesla_feeds.specs.declared.events.FeedsCounts.{FeedsCounts}
use Rattle.tesla_front.specs.OutcomeView.{OutcomeView, Done, Failed, Refused}
use Rattle.tesla_front.specs.Refusal.{refused_line}
use Rattle.tesla_front.specs.Command.{Command}
use Rattle.tesla_front.specs.Files.{IsPrefix}
use Rattle.tesla_front.specs.Openings.{File, files_told}
use Rattle.tesla_front.specs.Setup.{IsNoSetup}
use Rattle.tesla_front.specs.declared.fault.Fault.TheVariants as faults
use Rattle.tesla_front.specs.Names.{IsNoneOf}
use Rattle.tesla_relay.specs.Clocks.{ReadWhere}
use Rattle.tesla_relay.specs.Closed.{HoldsSent, IsUnsent}
use Rattle.tesla_relay.specs.Counts.{IsSentCount}
use Rattle.tesla_relay.specs.Links.{HasBroken, HasEnded, LeftWhere}
use Rattle.tesla_run_feed.specs.Arguments.{FeedArguments, IsFeedForm, StatusArguments, files_of_feed, sources_of}
use Rattle.tesla_run_feed.specs.Lines.{lines_of, outcome_written, streams_over}
use Rattle.tesla_run_feed.specs.Listing.{IsFirstRight, IsRight, all_times, are_several, is_right_stream, list_fault, list_refused}
use Rattle.tesla_run_feed.specs.declared.listing.ListFault.{ListFault}
use Rattle.tesla_run_feed.specs.Status.{AreLinesOf, Line, end_line, last_reading, line_text}
use Rattle.tesla_run_feed.specs.declared.line.SystemCounts.{SystemCounts}
use Rattle.tesla_run_send.specs.Sender.{IsFoundIn, IsNoSender, StopsAtSeeds}
use Rattle.tesla_seeds.specs.Weak.{AreSound, IsFirstWeak, weak_name}
use Rattle.tesla_seeds.specs.declared.weak.WeakSeed.{WeakSeed}
use Rattle.tesla_sender.specs.Made.{Stream}

-- ---- weak seeds

-- the line of the first seed that gives no safety, with the cause: that of chain 0 is the second line
abbrev pub weak_seed : ℕ → WeakSeed → OutcomeView
weak_seed chain kind = Refused 3 (refused_line (codes "seeds") (chain + 2) (weak_name kind))

-- the seeds were found, and one is all zeros, or a chain before has the same; no file behind them was asked for
pub record HasWeakSeeds (setup secret : Page) (opened : ℕ) (outcome : OutcomeView) : Type 0 where
  pub stream : Stream
  pub found : IsFoundIn setup secret stream
  pub few : opened ≤ 2
  pub chain : ℕ
  pub kind : WeakSeed
  pub weak : IsFirstWeak stream.seeds chain kind
  pub outcome_is : outcome ≡ weak_seed chain kind

-- why a setup has no sound seeds: there is no setup, there are no seeds under it, or one is weak
abbrev pub LacksSoundSeeds : Page → Page → ℕ → OutcomeView → Type 0
LacksSoundSeeds setup secret opened outcome =
    ((opened ≤ 1) × IsNoSetup setup outcome) ⊎ StopsAtSeeds setup secret opened outcome ⊎ HasWeakSeeds setup secret opened outcome

-- ---- the streams of the list

abbrev pub page_in : File → Page
page_in file = file.page

abbrev pub pages_of : List File → List Page
pages_of files = map page_in files

-- the setup and the seeds of a stream, as they are found, which are sound
abbrev pub IsSoundIn : Page → Page → Stream → Type 0
IsSoundIn setup secret stream = IsFoundIn setup secret stream × AreSound stream.seeds

-- so many setups with their seeds stand on the first of these pages, a setup and then its seeds, and they are those of these streams
abbrev pub AreSoundIn : List (List ℕ) → List Page → List Stream → Type 0
AreSoundIn [] pages [] = Unit {0}
AreSoundIn (name ∷ names) (setup ∷ secret ∷ pages) (stream ∷ streams) = IsSoundIn setup secret stream × AreSoundIn names pages streams
AreSoundIn names pages streams = ⊥

-- why they don't: a setup has no sound seeds, where each in front of it has, and no file behind these was asked for
abbrev pub LackSoundSeeds : List (List ℕ) → List Page → ℕ → OutcomeView → Type 0
LackSoundSeeds (name ∷ names) (setup ∷ secret ∷ pages) opened outcome =
    LacksSoundSeeds setup secret opened outcome
    ⊎ ((stream : Stream) × IsSoundIn setup secret stream × (behind : ℕ) × (opened ≡ suc (suc behind)) × LackSoundSeeds names pages behind outcome)
LackSoundSeeds names pages opened outcome = ⊥

-- all were found, and are no list; no file behind them was asked for
pub record AreNoList (names : List (List ℕ)) (pages : List Page) (opened few : ℕ) (outcome : OutcomeView) : Type 0 where
  pub streams : List Stream
  pub found : AreSoundIn names pages streams
  pub none_behind : opened ≤ few
  pub fault : ListFault
  pub fault_is : list_fault streams ≡ Some fault
  pub outcome_is : outcome ≡ list_refused fault

-- why there is no list of streams, told how many files their setups and seeds are: there was no memory before anything was opened, or one lacks sound seeds, or they are no list
abbrev pub LacksList : List (List ℕ) → List Page → ℕ → ℕ → OutcomeView → Type 0
LacksList names pages few opened outcome =
    ((opened ≡ 0) × (outcome ≡ Failed faults.NoMemory)) ⊎ LackSoundSeeds names pages opened outcome ⊎ AreNoList names pages opened few outcome

-- why the first of these streams has no sender: its seeds give none, or there was no memory
abbrev pub LacksFirst : List Stream → OutcomeView → Type 0
LacksFirst [] outcome = ⊥
LacksFirst (stream ∷ streams) outcome = IsNoSender stream outcome

-- why not all of these streams have senders: the seeds of one give none, where those of each in front of it are right, or there was no memory
abbrev pub LackSenders : List Stream → OutcomeView → Type 0
LackSenders [] outcome = ⊥
LackSenders (stream ∷ streams) outcome = IsNoSender stream outcome ⊎ (IsRight stream × LackSenders streams outcome)

-- those behind the first of these streams
abbrev pub behind_first : List Stream → List Stream
behind_first [] = []
behind_first (stream ∷ streams) = streams

-- not all streams behind the first one of the list have senders that aren't over at the opening and whose senders weren't there then: they are the last so many
pub record LackLater (streams : List Stream) (opening : ℕ) (outcome : OutcomeView) : Type 0 where
  pub many : ℕ
  pub front : List Stream
  pub are : lasting opening streams ≡ front ++ last_streams many (behind_first streams)
  pub why : LackSenders (last_streams many (behind_first streams)) outcome

-- ---- nothing was fed

-- the link wasn't opened, or there was no memory before, told how many files were opened with it: nothing else was done
pub record FindsNoLink (before now : Live) (linked opened : ℕ) (outcome : OutcomeView) : Type 0 where
  pub few : opened ≤ linked
  pub same : now ≡ before
  pub cause : (outcome ≡ Failed faults.Open) ⊎ (outcome ≡ Failed faults.NoMemory)

-- the link was opened, and then not the sender of the first stream: no letter left the link, no clock was made, and the mail under each name is as before
pub record FindsNoSender (arguments : FeedArguments) (streams : List Stream) (before now : Live) (outcome : OutcomeView) : Type 0 where
  pub unheard : LeavesAll (before.wire arguments.link) (now.left arguments.link)
  pub unsent : (name : List ℕ) → now.mail name ≡ before.mail name
  pub made : now.made ≡ before.made
  pub why : LacksFirst streams outcome

-- the link was opened, and a post or STATUS wasn't, told the page of STATUS before and afterwards: no letter left the link, no post sent anything, that page is as before, and the next clock was made
pub record FindsNoPost (arguments : FeedArguments) (before now : Live) (status status_now : Page) (outcome : OutcomeView) : Type 0 where
  pub unheard : LeavesAll (before.wire arguments.link) (now.left arguments.link)
  pub unsent : (name : List ℕ) → (now.mail name ≡ before.mail name) ⊎ IsUnsent (now.mail name)
  pub unwritten : status_now ≡ status
  pub made : now.made ≡ option_map raised before.made
  pub cause : (outcome ≡ Failed faults.Open) ⊎ (outcome ≡ Failed faults.NoMemory)

-- the link was opened, and by the next clock all streams were over: no letter left the link, the mail under each name is as before, and the setup is refused
pub record FindsOver (arguments : FeedArguments) (streams : List Stream) (before now : Live) (outcome : OutcomeView) : Type 0 where
  -- the readings of that clock: those before it could be read, and that of the opening
  pub unread : List ℕ
  pub opening : ℕ
  pub clock : ReadWhere (unread ++ opening ∷ []) before.readings before.made
  pub clock_made : now.made ≡ option_map raised before.made
  pub missed : AllByRecursion (λ reading. is_unread reading ≡ true) unread
  pub read : is_unread opening ≡ false
  -- it lies behind the end of the last interval of each stream by more than the delay of each chain and 64 intervals
  pub over : lasting opening streams ≡ []
  pub unheard : LeavesAll (before.wire arguments.link) (now.left arguments.link)
  pub unsent : (name : List ℕ) → now.mail name ≡ before.mail name
  pub outcome_is : outcome ≡ streams_over

-- ---- the posts

-- a post sent these datagrams, in order and each once; where it failed, a prefix of them
pub record SendsPost (datagrams : List (List ℕ)) (mail : Mail) (failed : Bool) : Type 0 where
  pub sends : ℕ
  pub many : IsSentCount datagrams failed sends
  pub sent : HoldsSent (take sends datagrams) failed mail

-- the same of each post, with the mail under its name, told which failed
abbrev pub SendPosts : List (List ℕ) → List (List ℕ) → Live → List Bool → Type 0
SendPosts datagrams [] now [] = Unit {0}
SendPosts datagrams (name ∷ names) now (failed ∷ others) = SendsPost datagrams (now.mail name) failed × SendPosts datagrams names now others
SendPosts datagrams names now failed = ⊥

-- ---- STATUS

-- the bytes are the lines of those of the notes that have one, and then the last line, of these counts at the last reading that could be had, each with what the system told beside it
pub record AreAllLines (times : List Times) (every opening : ℕ) (notes : List Note) (counts : FeedsCounts) (bytes : List ℕ) : Type 0 where
  pub lines : List Line
  pub are : AreLinesOf every opening notes lines
  pub system : SystemCounts
  pub bytes_are : bytes ≡ flat_map (line_text times) lines ++ end_line times system (record { reading = last_reading opening notes; counts = counts })

-- the bytes are a prefix of such lines
pub record BreakOff (times : List Times) (every opening : ℕ) (notes : List Note) (counts : FeedsCounts) (bytes : List ℕ) : Type 0 where
  pub text : List ℕ
  pub whole : AreAllLines times every opening notes counts text
  pub prefix : IsPrefix text bytes

abbrev pub LinesWhere : Bool → List Times → ℕ → ℕ → List Note → FeedsCounts → List ℕ → Type 0
LinesWhere false times every opening notes counts bytes = AreAllLines times every opening notes counts bytes
LinesWhere true times every opening notes counts bytes = BreakOff times every opening notes counts bytes

-- the page has these lines, each whole and nothing else; where STATUS failed a prefix of them
abbrev pub HoldsLines : List Times → ℕ → ℕ → List Note → FeedsCounts → Bool → Page → Type 0
HoldsLines times every opening notes counts failed Untold = Unit {0}
HoldsLines times every opening notes counts failed Absent = ⊥
HoldsLines times every opening notes counts failed (Holds bytes has_failed) = (has_failed ≡ failed) × LinesWhere failed times every opening notes counts bytes

-- the same of STATUS, told the reading of the opening, the notes and counts of a run, and whether STATUS failed; where there is no STATUS it didn't
abbrev pub HoldsStatus : Option StatusArguments → List Times → ℕ → List Note → FeedsCounts → Bool → Page → Type 0
HoldsStatus None times opening notes counts failed page = failed ≡ false
HoldsStatus (Some status) times opening notes counts failed page = HoldsLines times (status.every * 1000000) opening notes counts failed page

-- the page of the last file: that of STATUS, where there is one
abbrev pub last_page : List File → Page
last_page [] = Untold
last_page (file ∷ []) = file.page
last_page (file ∷ other ∷ files) = last_page (other ∷ files)

-- what a desk tells of it
abbrev pub status_page : FeedArguments → Told → Page
status_page arguments told = last_page (files_told told (files_of_feed arguments))

-- ---- the end

-- the link didn't fail, where that is told
abbrev pub IsUnbroken : Option Remainder → Type 0
IsUnbroken None = Unit {0}
IsUnbroken (Some remainder) = remainder.failed ≡ false

-- all posts failed
abbrev pub HaveAllFailed : List Bool → Type 0
HaveAllFailed failed = list_all has_failed failed ≡ true

-- the key of the last message of each stream, a handover too, was disclosed on every chain
abbrev pub IsAllDisclosed : Fed → Type 0
IsAllDisclosed made = are_told made.parts ≡ true

-- not all later streams have senders, as some outcome tells
abbrev pub IsOneLacking : List Stream → ℕ → Type 0
IsOneLacking streams opening = (outcome : OutcomeView) × LackLater streams opening outcome

-- nothing was lost; or, where not all later streams have senders, an event at whose reading one was needed
abbrev pub AreLostOf : List Stream → ℕ → List Event → Type 0
AreLostOf streams opening [] = Unit {0}
AreLostOf streams opening (event ∷ []) = IsOneLacking streams opening × IsLostAt (lasting opening streams) opening (reading_of event)
AreLostOf streams opening (event ∷ events) = ⊥

abbrev pub IsOneLost : List Event → Type 0
IsOneLost [] = ⊥
IsOneLost (event ∷ events) = Unit {0}

-- all was told before, unless all posts failed, or an event was lost
abbrev pub IsToldUnless : Fed → List Event → List Bool → Type 0
IsToldUnless made lost failed = HaveAllFailed failed ⊎ IsOneLost lost ⊎ IsAllDisclosed made

-- the link has ended, unless all posts failed, or not all later streams have senders
abbrev pub IsHeardUnless : List Stream → ℕ → Option Remainder → List Bool → Type 0
IsHeardUnless streams opening remainder failed = HaveAllFailed failed ⊎ IsOneLacking streams opening ⊎ HasEnded remainder

-- how it ends, told the streams of the list and the opening, what was lost, which posts failed and whether STATUS did. The link has ended, and no post failed, nor STATUS: the lines tell the counts. Or the link failed, or else a post or STATUS did, or else not all later streams have senders. In each case all is told before, unless all posts failed, or an event was lost
abbrev pub EndsAs : List Stream → ℕ → Option Remainder → Fed → List Event → List Bool → Bool → OutcomeView → Type 0
EndsAs streams opening remainder made lost failed status_failed (Done text) =
    (text ≡ lines_of (are_several (all_times streams)) (all_counts made)) × (lost ≡ []) × ((list_any has_failed failed || status_failed) ≡ false) × IsAllDisclosed made × HasEnded remainder
EndsAs streams opening remainder made lost failed status_failed (Failed faults.Read) = HasBroken remainder × IsToldUnless made lost failed
EndsAs streams opening remainder made lost failed status_failed (Failed faults.Write) =
    ((list_any has_failed failed || status_failed) ≡ true) × IsUnbroken remainder × IsToldUnless made lost failed × IsHeardUnless streams opening remainder failed
EndsAs streams opening remainder made lost failed status_failed outcome =
    LackLater streams opening outcome × ((list_any has_failed failed || status_failed) ≡ false) × IsUnbroken remainder × IsToldUnless made lost failed

-- ---- a run

-- what came over the link was fed to the posts by the senders of the streams that aren't over at the opening, told the page of STATUS afterwards
pub record FeedsLink (arguments : FeedArguments) (streams : List Stream) (before now : Live) (status_now : Page) (outcome : OutcomeView) : Type 0 where
  -- the readings of the next clock: those before it could be read, that of the opening, those before the first interval of any stream had begun, the first one then, and one for each event
  pub unread : List ℕ
  pub opening : ℕ
  pub early : List ℕ
  pub begun : ℕ
  pub heard : List Heard
  pub rests : List ℕ
  -- at most one event more, of which nothing was made
  pub lost : List Event
  pub lost_is : AreLostOf streams opening lost
  pub clock : ReadWhere (unread ++ opening ∷ early ++ begun ∷ map reading_of (events_of heard rests ++ lost)) before.readings before.made
  pub clock_made : now.made ≡ option_map raised before.made
  pub missed : AllByRecursion (λ reading. is_unread reading ≡ true) unread
  pub read : is_unread opening ≡ false
  pub lasts : first_lasts opening (lasting opening streams) ≡ true
  pub waits : AllByRecursion (λ reading. some_begun (lasting opening streams) opening reading ≡ false) early
  pub begins : some_begun (lasting opening streams) opening begun ≡ true
  -- what was heard left the link, in order
  pub link : LeftWhere (map letter_of heard ++ letters_in lost) (before.wire arguments.link) (now.left arguments.link)
  -- what was made of it, and what each post sent of that
  pub made : Fed
  pub made_is : made ≡ fed_all (lasting opening streams) opening (events_of heard rests)
  -- of the streams of which something was made the seeds are right
  pub used : are_right_where_used is_right_stream made ≡ true
  pub failed : List Bool
  pub posts : SendPosts made.frames arguments.posts now failed
  -- what STATUS holds: the lines of the notes of each reading before the first interval and of each event
  pub status_failed : Bool
  pub status : HoldsStatus arguments.status (all_times streams) opening (notes_of (lasting opening streams) opening (map rested_at early ++ events_of heard rests)) (all_counts made) status_failed status_now
  -- why it rested behind the link, and how it ends
  pub needed : AreNeeded (fed_all (lasting opening streams) opening (map received_of heard)) rests
  pub ends : EndsAs streams opening (now.left arguments.link) made lost failed status_failed outcome

-- the run was asked to end before the first interval of any stream had begun, as the gate may tell: no letter left the link, no post sent anything, and STATUS holds the lines of what was read by then
pub record FindsEnd (over : Bool) (arguments : FeedArguments) (streams : List Stream) (before now : Live) (status_now : Page) (outcome : OutcomeView) : Type 0 where
  pub asked : over ≡ true
  -- the readings of the next clock: those before it could be read, that of the opening, and those behind it
  pub unread : List ℕ
  pub opening : ℕ
  pub early : List ℕ
  pub clock : ReadWhere (unread ++ opening ∷ early) before.readings before.made
  pub clock_made : now.made ≡ option_map raised before.made
  pub missed : AllByRecursion (λ reading. is_unread reading ≡ true) unread
  pub read : is_unread opening ≡ false
  pub lasts : first_lasts opening (lasting opening streams) ≡ true
  pub waits : AllByRecursion (λ reading. some_begun (lasting opening streams) opening reading ≡ false) early
  pub unheard : LeavesAll (before.wire arguments.link) (now.left arguments.link)
  pub unsent : AllByRecursion (λ name. IsUnsent (now.mail name)) arguments.posts
  pub status_failed : Bool
  pub status : HoldsStatus arguments.status (all_times streams) opening (notes_of (lasting opening streams) opening (map rested_at early)) (all_counts (opened_at opening (lasting opening streams))) status_failed status_now
  pub outcome_is : outcome ≡ outcome_written (are_several (all_times streams)) status_failed (all_counts (opened_at opening (lasting opening streams)))

-- all were opened, and the link was fed to the posts; or the run was asked to end before the first interval
abbrev pub FeedsOrEnds : Bool → FeedArguments → List Stream → Live → Live → Page → OutcomeView → Type 0
FeedsOrEnds over arguments streams before now status_now outcome =
    FindsEnd over arguments streams before now status_now outcome ⊎ FeedsLink arguments streams before now status_now outcome

-- how many files are opened with the link: the setups and seeds, and then it
abbrev pub linked_by : FeedArguments → ℕ
linked_by arguments = length (sources_of arguments) + 1

-- what is done with the streams once the first has its sender, told how many files were asked to be opened, and the page of STATUS before and afterwards: a post or STATUS wasn't opened, or there was no memory; or the link was the last of the files and all streams were over; or all were opened
abbrev pub FeedsOrStops : Bool → FeedArguments → List Stream → ℕ → Live → Live → Page → Page → OutcomeView → Type 0
FeedsOrStops over arguments streams opened before now status status_now outcome =
    FindsNoPost arguments before now status status_now outcome
    ⊎ ((opened ≡ linked_by arguments) × FindsOver arguments streams before now outcome)
    ⊎ ((opened ≡ length (files_of_feed arguments)) × FeedsOrEnds over arguments streams before now status_now outcome)

-- what is done with the streams: the link wasn't opened; or it was the last of the files, and the first stream has no sender; or its seeds are right, and what follows was done
abbrev pub FeedsStreams : Bool → FeedArguments → List Stream → ℕ → Live → Live → Page → Page → OutcomeView → Type 0
FeedsStreams over arguments streams opened before now status status_now outcome =
    FindsNoLink before now (linked_by arguments) opened outcome
    ⊎ ((opened ≡ linked_by arguments) × FindsNoSender arguments streams before now outcome)
    ⊎ (IsFirstRight streams × FeedsOrStops over arguments streams opened before now status status_now outcome)

-- ---- the command

-- the link was fed by senders of a list of setups and seeds that were found, or nothing was
pub record FeedsWith (over : Bool) (arguments : FeedArguments) (files : List File) (before now : Live) (status status_now : Page) (opened : ℕ) (outcome : OutcomeView) : Type 0 where
  pub streams : List Stream
  pub found : AreSoundIn arguments.setups (pages_of files) streams
  pub fits : list_fault streams ≡ None
  pub does : FeedsStreams over arguments streams opened before now status status_now outcome

-- what is told of links, posts and clocks is as before, but for what is left of this link, the mail of these posts and how many clocks were made
pub record TouchesLive (link : List ℕ) (posts : List (List ℕ)) (before now : Live) : Type 0 where
  pub wires : (name : List ℕ) → now.wire name ≡ before.wire name
  pub others : (name : List ℕ) → name ≢ link → now.left name ≡ before.left name
  pub mails : (name : List ℕ) → IsNoneOf name posts → now.mail name ≡ before.mail name
  pub readings : now.readings ≡ before.readings

-- what the run does, told whether the gate may tell that it was asked to end, and the files in the order of the words: there is no list of streams, or what follows was done with it
abbrev pub DoesFeed : Bool → Live → Live → FeedArguments → ℕ → List File → List File → OutcomeView → Type 0
DoesFeed over before now arguments opened files files_now outcome =
    TouchesLive arguments.link arguments.posts before now
    × ((LacksList arguments.setups (pages_of files) (length (sources_of arguments)) opened outcome × (now ≡ before))
    ⊎ FeedsWith over arguments files before now (last_page files) (last_page files_now) opened outcome)

-- the command, told whether the gate may tell that the run was asked to end, and what the desk has of links, posts and clocks before and afterwards: its words, its files and what it does
abbrev pub feed : Bool → Live → Live → Command
feed over before now = record { Arguments = FeedArguments; IsForm = IsFeedForm; files = files_of_feed; Does = DoesFeed over before now }
