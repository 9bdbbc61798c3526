-- What may be sent and written, once all was opened.
use Rattle.std.proofs.Common.{◌≡◌, ◌≢◌, ◌∙◌, codes, ℕ, Bool, true, Ok, List, [], ◌∷◌, ◌++◌, map, Option, Some, None, append-nil, refl, sym, ap, subst}
use Rattle.tesla_desk.specs.Clocks.{Ticking}
use Rattle.tesla_desk.specs.Outside.{Opening, Page, Told}
use Rattle.tesla_feed.specs.Due.{AreUnsent}
use Rattle.tesla_feeds.specs.Due.{MaySendDue}
use Rattle.tesla_feeds.specs.Fed.{lasting}
use Rattle.tesla_feeds.specs.Opening.{streams_fed}
use Rattle.tesla_feeds.specs.declared.opening.OpenFeeds.{OpenFeeds}
use Rattle.tesla_relay.specs.Opened.{AreFresh, post_name}
use Rattle.tesla_relay.specs.Posts.{PostSeen}
use Rattle.tesla_relay.proofs.Openings.{opens_new}
use Rattle.tesla_front.specs.Openings.{files_told}
use Rattle.tesla_run_feed.specs.Arguments.{FeedArguments, StatusArguments, sources_of}
use Rattle.tesla_run_feed.specs.Due.{AreListedIn, IsCountedFor, IsFedFrom, IsStatusLine, MaySendLasting, MayWriteCounts, MayWriteLasting}
use Rattle.tesla_run_feed.specs.Feeding.{AreSoundIn, behind_first, pages_of}
use Rattle.tesla_run_feed.specs.Listing.{all_times, is_right_stream}
use Rattle.tesla_run_feed.specs.Steps.{OpensFeeding, OpensReady, ReadsList, streams_ready}
use Rattle.tesla_run_feed.specs.declared.listing.SeededSetups.{SeededSetups}
use Rattle.tesla_run_feed.proofs.Listed.{each_found, sources_same}
use Rattle.tesla_clock.specs.Schedule.{Times}
use Rattle.tesla_sender.specs.Made.{Stream}

-- new posts sent nothing
fresh_unsent : (posts : List PostSeen) → AreFresh posts → AreUnsent posts
fresh_unsent [] fresh = tt
fresh_unsent (post ∷ posts) fresh = (fresh.0.0, fresh_unsent posts fresh.1)

-- the posts of a feed that was opened
pub ready_unsent : (streams : List Stream) (names : List (List ℕ)) (feed : OpenFeeds) (ticking : Option Ticking)
    (posts : List PostSeen) (before now : Told) → OpensFeeding streams names feed ticking posts (Ok tt) before now
    → AreUnsent posts
ready_unsent streams names feed ticking posts before now ready =
    fresh_unsent posts (opens_new names ready.clocked now posts (Ok tt) ready.posts_open).fresh

-- its streams are those of the list but for those in front that are over
pub ready_streams : (streams : List Stream) (names : List (List ℕ)) (feed : OpenFeeds) (later : SeededSetups) (ticking : Option Ticking)
    (posts : List PostSeen) (before now : Told) → OpensReady streams names feed later ticking posts before now → streams_ready feed later ≡ lasting feed.opening streams
ready_streams streams names feed later ticking posts before now ready =
    let clocked = ready.opens.opens in
    ap (λ (ss : List Stream). streams_fed feed.feeders ++ ss) ready.later_is ∙ clocked.opens.1
    ∙ ap (λ (n : ℕ). lasting n (clocked.first ∷ behind_first streams)) (sym clocked.opens.0) ∙ ap (λ (ss : List Stream). lasting feed.opening ss) (sym clocked.streams_are)

-- may send what is due of its streams
pub ready_due : {P : Type 0} (seen : P → PostSeen) (may_send : P → List ℕ → Bool) (gave : ℕ → Bool)
    (read_for : ℕ → List ℕ → ℕ → Bool) (streams : List Stream) (names : List (List ℕ)) (feed : OpenFeeds) (later : SeededSetups) (ticking : Option Ticking)
    (posts : List PostSeen) (before now : Told) → OpensReady streams names feed later ticking posts before now
    → gave feed.opening ≡ true → MaySendLasting seen may_send gave read_for names streams
    → MaySendDue is_right_stream seen may_send gave read_for (map post_name posts) (streams_ready feed later)
ready_due seen may_send gave read_for streams names feed later ticking posts before now ready given due =
    let opens = ready.opens in
    let same = ((opens_new names opens.clocked now posts (Ok tt) opens.posts_open).whole refl).names_are in
    let own : MaySendDue is_right_stream seen may_send gave read_for names (streams_ready feed later) =
    subst (λ (ss : List Stream). MaySendDue is_right_stream seen may_send gave read_for names ss) (sym (ready_streams streams names feed later ticking posts before now ready)) (due feed.opening given) in
    subst (λ (ns : List (List ℕ)). MaySendDue is_right_stream seen may_send gave read_for ns (streams_ready feed later)) (sym same) own

-- and may write the counts of these
pub ready_counted : {S : Type 0} (name : S → List ℕ) (written : S → Option (List ℕ)) (may_write : S → List ℕ → Bool) (gave : ℕ → Bool)
    (read_for : ℕ → List ℕ → ℕ → Bool) (status : Option StatusArguments) (streams : List Stream) (times : List Times) (names : List (List ℕ)) (feed : OpenFeeds) (later : SeededSetups)
    (ticking : Option Ticking) (posts : List PostSeen) (before now : Told) → OpensReady streams names feed later ticking posts before now
    → gave feed.opening ≡ true → times ≡ all_times streams → MayWriteLasting name written may_write gave read_for status streams
    → MayWriteCounts name written may_write gave read_for status times (streams_ready feed later)
ready_counted name written may_write gave read_for status streams times names feed later ticking posts before now ready given times_are counted =
    subst (λ (ts : List Times). MayWriteCounts name written may_write gave read_for status ts (streams_ready feed later)) (sym times_are)
    (subst (λ (ss : List Stream). MayWriteCounts name written may_write gave read_for status (all_times streams) ss) (sym (ready_streams streams names feed later ticking posts before now ready)) (counted feed.opening given))

-- what is due by what the desk tells is due by what it told before, where the pages of all files are the same, as
-- where only the console was opened
pub due_before : (gave : ℕ → Bool) (read_for : ℕ → List ℕ → ℕ → Bool) (words : List (List ℕ)) (before now : Told)
    (name : List ℕ) (sent : Option (List (List ℕ))) (datagram : List ℕ)
    → ((file : List ℕ) → file ≢ codes "-" → now.page file ≡ before.page file)
    → IsFedFrom gave read_for words now name sent datagram → IsFedFrom gave read_for words before name sent datagram
due_before gave read_for words before now name sent datagram same due =
    let arguments = due.arguments in
    let fed = due.fed in
    let listed = fed.left.listed in
    let pages : pages_of (files_told now (sources_of arguments)) ≡ pages_of (files_told before (sources_of arguments)) =
    sources_same arguments words before now due.form same in
    record {
      arguments = arguments;
      form = due.form;
      fed = record {
        named = fed.named;
        streams = fed.streams;
        going = fed.going;
        left = record {
          listed = record {
            found = subst (λ (ps : List Page). AreSoundIn arguments.setups ps fed.streams) pages listed.found;
            fits = listed.fits;
          };
          from = fed.left.from;
          given = fed.left.given;
          going_is = fed.left.going_is;
        };
        due = fed.due;
      };
    }

-- ---- what may be written to STATUS

-- what may be written for the words may be of these streams
may_write_by : {S : Type 0} (name : S → List ℕ) (written : S → Option (List ℕ)) (may_write : S → List ℕ → Bool) (gave : ℕ → Bool) (read_for : ℕ → List ℕ → ℕ → Bool) (status : Option StatusArguments) (times : List Times) (streams : List Stream)
    → ((it : S) (piece : List ℕ) → IsStatusLine gave read_for status times streams (name it) (written it) piece → may_write it piece ≡ true) → MayWriteCounts name written may_write gave read_for status times streams
may_write_by name written may_write gave read_for None times streams may = tt
may_write_by name written may_write gave read_for (Some status) times streams may = λ it piece named counted. may it piece (named, counted)

pub may_write_counts : {S : Type 0} (name : S → List ℕ) (written : S → Option (List ℕ)) (may_write : S → List ℕ → Bool) (gave : ℕ → Bool) (read_for : ℕ → List ℕ → ℕ → Bool) (arguments : FeedArguments) (told : Told) (streams : List Stream)
    → AreListedIn told arguments streams
    → ((it : S) (piece : List ℕ) → IsCountedFor gave read_for arguments told (name it) (written it) piece → may_write it piece ≡ true) → MayWriteLasting name written may_write gave read_for arguments.status streams
may_write_counts name written may_write gave read_for arguments told streams listed may = λ from given.
    may_write_by name written may_write gave read_for arguments.status (all_times streams) (lasting from streams)
    (λ it piece line. may it piece (record { streams = streams; going = lasting from streams; left = record { listed = listed; from = from; given = given; going_is = refl }; line = line }))

-- ---- the list

-- a list that was read is told by the desk
pub listed_in : (arguments : FeedArguments) (streams : List Stream) (before now : Told) → ReadsList arguments.setups arguments.secrets streams before now → AreListedIn before arguments streams
listed_in arguments streams before now read = record {
  found = subst (λ (files : List Opening). AreSoundIn arguments.setups (pages_of (files_told before files)) streams) (append-nil (sources_of arguments))
      (each_found arguments.setups arguments.secrets [] streams before now read.reads);
  fits = read.fits;
}
