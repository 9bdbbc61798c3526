-- A whole feed over a list, put together from its parts.
use Rattle.std.proofs.Common.{◌≡◌, ◌∙◌, ℕ, ◌<◌, ◌≤◌, Bool, true, false, IfSome, List, [], ◌∷◌, ◌++◌, length, map, take, Option, refl, sym, ap, subst, append_assoc, arith}
use Rattle.std.specs.Prelude.{◌||◌, not}
use Rattle.std.specs.List.{list_all, list_any}
use Rattle.std.proofs.lemmas.List.Sums.{fold-append}
use Rattle.tesla_desk.specs.Clocks.{Gives, Ticking}
use Rattle.tesla_desk.specs.Links.{after_letters}
use Rattle.tesla_desk.specs.declared.link.Letter.{Letter}
use Rattle.tesla_relay.specs.Opened.{post_name}
use Rattle.tesla_relay.specs.Posts.{PostSeen}
use Rattle.tesla_sender.specs.Made.{Stream}
use Rattle.tesla_feed.specs.Due.{AreUnsent}
use Rattle.tesla_feed.specs.Fed.{Event, reading_of}
use Rattle.tesla_feed.specs.Feed.{SendPosts, has_failed, letter_of, received_of, rested_at}
use Rattle.tesla_feed.specs.Steps.{StopsHearing, lacks_sender}
use Rattle.tesla_feed.specs.declared.hearing.Hearing.{Hearing}
use Rattle.tesla_feed.specs.declared.hearing.Hearing.TheVariants as hearings
use Rattle.tesla_feed.proofs.Going.{letters_none, letters_twice}
use Rattle.tesla_feed.proofs.Whole.{ended, gives_both, map_both, none_sent}
use Rattle.tesla_feeds.specs.Due.{MayNoteAll, MaySendDue}
use Rattle.tesla_feeds.specs.Fed.{Fed, after_event, fed_all}
use Rattle.tesla_feeds.specs.Feeds.{AreNeeded, Feeds, StopsEarly}
use Rattle.tesla_feeds.specs.Going.{Awaits, EndsHearing, EndsResting, Goes, GoesOn, Hears, NotesOn, Rests, Tells, WaitsOn, fed_after, loses_item, with_reading}
use Rattle.tesla_feeds.specs.Later.{AreLater, AreLost, HasRoom, StandsAll, letters_in}
use Rattle.tesla_feeds.specs.Notes.{Note, all_counts}
use Rattle.tesla_feeds.specs.Opening.{first_lasts, opened_at, streams_fed}
use Rattle.tesla_feeds.specs.Waits.{are_told}
use Rattle.tesla_feeds.specs.declared.events.FeedsCounts.{FeedsCounts}
use Rattle.tesla_feeds.specs.declared.feeding.FeedsEnd.{FeedsEnd}
use Rattle.tesla_feeds.specs.declared.later.LaterStream.{LaterStream}
use Rattle.tesla_feeds.specs.declared.opening.OpenFeeds.{OpenFeeds}
use Rattle.tesla_feeds.proofs.Behind.{used_all}
use Rattle.tesla_feeds.proofs.Brought.{stands_counts, stands_own, stands_used}
use Rattle.tesla_feeds.proofs.Early.{waits_fed}
use Rattle.tesla_feeds.proofs.Given.{fed_lasting}
use Rattle.tesla_feeds.proofs.Going.{rests_none}
use Rattle.tesla_feeds.proofs.Noted.{tells_both}

-- ---- the beginning

-- a feed was opened, and nothing was told of it
pub noting_opened : {N : Type 0} (right : Stream → Bool) (was_told : N → List Note → Type 0) (may_note : N → Note → Type 0) (gave : ℕ → Bool) (read_for : ℕ → List ℕ → ℕ → Bool) (streams : List Stream) (opening : ℕ) (notes : N)
    → gave opening ≡ true → first_lasts opening streams ≡ true → was_told notes [] → MayNoteAll right was_told may_note gave read_for streams
    → NotesOn right was_told may_note gave read_for streams 0 (opened_at opening streams) notes
noting_opened right was_told may_note gave read_for streams opening notes given lasts untold may = record {
  comes = record {
    opening = opening;
    opened = given;
    lasts = lasts;
    events = [];
    given = tt;
    number_is = refl;
    fed_is = fed_lasting streams opening [] lasts;
    used = used_all right [] opening streams refl;
  };
  noted = untold;
  may = may;
}

-- its first interval has begun, and nothing was made or sent yet
pub begun_goes : {P : Type 0} (right : Stream → Bool) (seen : P → PostSeen) (left : List Stream) (fed : Fed) (feeds now : OpenFeeds) (last : ℕ) (posts : List P) (marks : List Bool) → StandsAll left feeds fed → HasRoom feeds → list_all right (streams_fed feeds.feeders) ≡ true → fed.frames ≡ [] → now ≡ with_reading feeds last → length posts ≤ length marks → list_all not marks ≡ true
    → Goes right left fed (map seen posts) now (map seen posts) (take (length posts) marks)
begun_goes right seen left fed feeds now last posts marks stands room all nothing same few none =
    subst (λ (f : OpenFeeds). Goes right left fed (map seen posts) f (map seen posts) (take (length posts) marks)) (sym same) (record {
      stands = record { front = stands.front; parts_are = stands.parts_are; stands = stands.stands; later = stands.later };
      room = room;
      all_right = all;
      sends = subst (λ (ds : List (List ℕ)). SendPosts ds (map seen posts) (map seen posts) (take (length posts) marks)) (sym nothing) (none_sent seen posts marks few none);
    })

-- and it goes on
pub goes_on_begun : {P N : Type 0} (right : Stream → Bool) (seen : P → PostSeen) (may_send : P → List ℕ → Bool) (was_told : N → List Note → Type 0) (may_note : N → Note → Type 0) (gave : ℕ → Bool) (read_for : ℕ → List ℕ → ℕ → Bool) (streams : List Stream) (left : List Stream) (fed : Fed) (feeds : OpenFeeds) (posts : List P) (failed : List Bool) (notes : N)
    → AreUnsent (map seen posts) → MaySendDue right seen may_send gave read_for (map post_name (map seen posts)) streams
    → NotesOn right was_told may_note gave read_for streams 0 fed notes
    → Goes right left fed (map seen posts) feeds (map seen posts) failed
    → GoesOn right seen may_send was_told may_note gave read_for streams 0 left feeds posts failed notes
goes_on_begun right seen may_send was_told may_note gave read_for streams left fed feeds posts failed notes unsent due noting goes = record {
  first_posts = map seen posts;
  unsent = unsent;
  due = due;
  fed = fed;
  noting = noting;
  goes = goes;
}

-- ---- a feed that goes on

-- its streams are those of its feeders and those that are left
pub goes_on_own : {P N : Type 0} (right : Stream → Bool) (seen : P → PostSeen) (may_send : P → List ℕ → Bool) (was_told : N → List Note → Type 0) (may_note : N → Note → Type 0) (gave : ℕ → Bool) (read_for : ℕ → List ℕ → ℕ → Bool) (streams : List Stream) (number : ℕ) (left : List Stream) (feeds : OpenFeeds) (posts : List P) (failed : List Bool) (notes : N)
    → GoesOn right seen may_send was_told may_note gave read_for streams number left feeds posts failed notes → streams_fed feeds.feeders ++ left ≡ streams
goes_on_own right seen may_send was_told may_note gave read_for streams number left feeds posts failed notes on =
    let comes = on.noting.comes in
    stands_own left feeds streams comes.opening comes.events comes.lasts
    (subst (λ (f : Fed). StandsAll left feeds f) (sym comes.fed_is) on.goes.stands)

-- of equal streams
pub goes_on_as : {P N : Type 0} (right : Stream → Bool) (seen : P → PostSeen) (may_send : P → List ℕ → Bool) (was_told : N → List Note → Type 0) (may_note : N → Note → Type 0) (gave : ℕ → Bool) (read_for : ℕ → List ℕ → ℕ → Bool) (own streams : List Stream) (number : ℕ) (left later : List Stream) (feeds : OpenFeeds) (posts : List P) (failed : List Bool) (notes : N)
    → own ≡ streams → left ≡ later → GoesOn right seen may_send was_told may_note gave read_for own number left feeds posts failed notes → GoesOn right seen may_send was_told may_note gave read_for streams number later feeds posts failed notes
goes_on_as right seen may_send was_told may_note gave read_for own streams number left later feeds posts failed notes same others on =
    subst (λ (ss : List Stream). GoesOn right seen may_send was_told may_note gave read_for streams number ss feeds posts failed notes) others
    (subst (λ (ss : List Stream). GoesOn right seen may_send was_told may_note gave read_for ss number left feeds posts failed notes) same on)

pub goes_as : (right : Stream → Bool) (left later : List Stream) (fed : Fed) (firsts : List PostSeen) (feeds : OpenFeeds) (posts : List PostSeen) (failed : List Bool) → left ≡ later → Goes right left fed firsts feeds posts failed → Goes right later fed firsts feeds posts failed
goes_as right left later fed firsts feeds posts failed same goes = subst (λ (ss : List Stream). Goes right ss fed firsts feeds posts failed) same goes

-- the streams are those of the feed when it was opened
pub begun_own : (opened begun : OpenFeeds) (last : ℕ) (left later : List Stream) → begun ≡ with_reading opened last → later ≡ left → streams_fed begun.feeders ++ later ≡ streams_fed opened.feeders ++ left
begun_own opened begun last left later same others = ap (λ (f : OpenFeeds). streams_fed f.feeders ++ later) same ∙ ap (λ (ss : List Stream). streams_fed opened.feeders ++ ss) others

pub begun_opening : (opened begun : OpenFeeds) (last : ℕ) → begun ≡ with_reading opened last → begun.opening ≡ opened.opening
begun_opening opened begun last same = ap (λ (f : OpenFeeds). f.opening) same

-- ---- the parts of a run

-- of equal streams and openings
pub hears_of : (hearing : Hearing) (right : Stream → Bool) (own streams : List Stream) (from opening : ℕ) (over : List Stream) (fed : Fed) (firsts : List PostSeen) (feeds : OpenFeeds) (failed : List Bool) (left later : Option (List Letter)) (before after : Option Ticking) (posts : List PostSeen) (was_told is_told : List Note → Type 0) → own ≡ streams → from ≡ opening
    → EndsHearing hearing right own from over fed firsts feeds failed left later before after posts was_told is_told → EndsHearing hearing right streams opening over fed firsts feeds failed left later before after posts was_told is_told
hears_of hearing right own streams from opening over fed firsts feeds failed left later before after posts was_told is_told same begin ends =
    subst (λ (o : ℕ). EndsHearing hearing right streams o over fed firsts feeds failed left later before after posts was_told is_told) begin
    (subst (λ (ss : List Stream). EndsHearing hearing right ss from over fed firsts feeds failed left later before after posts was_told is_told) same ends)

pub rests_of : (told : Bool) (right : Stream → Bool) (own streams : List Stream) (from opening : ℕ) (over : List Stream) (fed : Fed) (firsts : List PostSeen) (feeds : OpenFeeds) (failed : List Bool) (before after : Option Ticking) (posts : List PostSeen) (was_told is_told : List Note → Type 0) → own ≡ streams → from ≡ opening
    → EndsResting told right own from over fed firsts feeds failed before after posts was_told is_told → EndsResting told right streams opening over fed firsts feeds failed before after posts was_told is_told
rests_of told right own streams from opening over fed firsts feeds failed before after posts was_told is_told same begin ends =
    subst (λ (o : ℕ). EndsResting told right streams o over fed firsts feeds failed before after posts was_told is_told) begin
    (subst (λ (ss : List Stream). EndsResting told right ss from over fed firsts feeds failed before after posts was_told is_told) same ends)

pub differ : (a : Bool) → a ≡ false → a ≡ true → ⊥
differ true one other = absurd cc
differ false one other = absurd cc

-- whether an item was lost
pub kept_is : (hearing : Hearing) (lost : Bool) → (hearing ≡ hearings.Lost → lost ≡ true) → lost ≡ false → loses_item hearing ≡ false
kept_is hearings.Ended lost up is = refl
kept_is hearings.LinkFailed lost up is = refl
kept_is hearings.Unheard lost up is = refl
kept_is hearings.Lacking lost up is = refl
kept_is hearings.Lost lost up is = absurd (differ lost is (up refl))

-- whether a sender was lacking
pub lacking_first : (a b c : Bool) → c ≡ (a || b) → c ≡ false → a ≡ false
lacking_first true b c is none = absurd (differ c none is)
lacking_first false b c is none = refl

pub lacking_second : (a b c : Bool) → c ≡ (a || b) → b ≡ true → c ≡ true
lacking_second true b c is there = is
lacking_second false b c is there = is ∙ there

-- nothing is lost where no sender is lacking
lost_none : (lacking : Bool) (streams : List Stream) (opening : ℕ) (lost : List Event) → lacking ≡ false → AreLost lacking streams opening lost → lost ≡ []
lost_none lacking streams opening [] there is = refl
lost_none lacking streams opening (event ∷ []) there is = absurd (differ lacking there is.0)
lost_none lacking streams opening (event ∷ other ∷ events) there is = absurd is

lost_where : (lacking more : Bool) (streams : List Stream) (opening : ℕ) (lost : List Event) → (lacking ≡ true → more ≡ true) → AreLost lacking streams opening lost → AreLost more streams opening lost
lost_where lacking more streams opening [] up is = tt
lost_where lacking more streams opening (event ∷ []) up is = (up is.0, is.1)
lost_where lacking more streams opening (event ∷ other ∷ events) up is = is

-- rests take no letters
rested_letters : (rests : List ℕ) → letters_in (map rested_at rests) ≡ []
rested_letters [] = refl
rested_letters (reading ∷ rests) = rested_letters rests

none_rested : (rests : List ℕ) → map rested_at rests ≡ [] → rests ≡ []
none_rested [] none = refl
none_rested (reading ∷ rests) none = absurd cc

-- items that were heard with none lost behind them
hears_all : (hearing : Hearing) (right : Stream → Bool) (streams : List Stream) (opening : ℕ) (over : List Stream) (fed : Fed) (firsts : List PostSeen) (feeds : OpenFeeds) (failed : List Bool) (left later : Option (List Letter)) (before after : Option Ticking) (posts : List PostSeen) (was_told is_told : List Note → Type 0) → loses_item hearing ≡ false
    → EndsHearing hearing right streams opening over fed firsts feeds failed left later before after posts was_told is_told → Hears right over fed firsts feeds failed left later before after posts was_told is_told
hears_all hearing right streams opening over fed firsts feeds failed left later before after posts was_told is_told there ends =
    let loses = ends.loses in
    let none : loses.lost ≡ [] = lost_none (loses_item hearing) streams opening loses.lost there loses.lost_is in
    let ticked : after ≡ ends.then = subst (λ (es : List Event). Gives (map reading_of es) ends.then after) none loses.gives in
    let taken : ends.mid ≡ later = loses.left_is ∙ ap (λ (es : List Event). after_letters (letters_in es) later) none ∙ sym (letters_none later) in
    subst (λ (l : Option (List Letter)). Hears right over fed firsts feeds failed left l before after posts was_told is_told) taken
    (subst (λ (t : Option Ticking). Hears right over fed firsts feeds failed left ends.mid before t posts was_told is_told) (sym ticked) ends.hears)

-- ---- a whole run

-- a run that was begun: what was heard, the rests, what was lost, and how it ended
pub record Runs (right : Stream → Bool) (streams : List Stream) (opening : ℕ) (opened begun heard told : OpenFeeds) (heard_left told_left : List Stream) (marks failed : List Bool) (result : FeedsEnd) (left mid_left later : Option (List Letter)) (first second third fourth last : Option Ticking) (posts mid now : List PostSeen) (untold begun_told heard_told all_told : List Note → Type 0) : Type 0 where
  pub lasts : first_lasts opening streams ≡ true
  pub untold_yet : untold []
  pub awaits : Awaits streams opening opened begun first second untold begun_told
  pub hears : Hears right heard_left (opened_at opening streams) posts heard marks left mid_left second third mid begun_told heard_told
  pub rests : Rests right told_left (fed_after (opened_at opening streams) (map received_of hears.heard)) posts told failed third fourth now heard_told all_told
  pub lost : List Event
  pub gives_lost : Gives (map reading_of lost) fourth last
  pub lost_is : AreLost result.lacking streams opening lost
  pub mid_is : mid_left ≡ after_letters (letters_in lost) later
  pub ends : (fed : Fed) → StandsAll told_left told fed → list_all has_failed failed ≡ false → lost ≡ [] → are_told fed.parts ≡ true
  pub ended : list_all has_failed failed ≡ false → result.link_failed ≡ false → result.lacking ≡ false → IfSome later (λ rest. rest ≡ [])
  pub some_failed : result.post_failed ≡ list_any has_failed failed
  pub counts : result.counts ≡ told.feeders.counts

pub feeds_run : (right : Stream → Bool) (streams : List Stream) (opening : ℕ) (opened begun heard told : OpenFeeds) (heard_left told_left : List Stream) (marks failed : List Bool) (result : FeedsEnd) (left mid_left later : Option (List Letter)) (first second third fourth last : Option Ticking) (posts mid now : List PostSeen) (untold begun_told heard_told all_told : List Note → Type 0)
    → Runs right streams opening opened begun heard told heard_left told_left marks failed result left mid_left later first second third fourth last posts mid now untold begun_told heard_told all_told
    → Feeds right streams opening result left later first last posts now all_told
feeds_run right streams opening opened begun heard told heard_left told_left marks failed result left mid_left later first second third fourth last posts mid now untold begun_told heard_told all_told run =
    let start = opened_at opening streams in
    let hears = run.hears in
    let received = map received_of hears.heard in
    let made = fed_after start received in
    let rests = run.rests in
    let rested = map rested_at rests.rests in
    let all = fed_after made rested in
    let events = received ++ rested in
    let whole : all ≡ fed_all streams opening events = sym (fed_lasting streams opening events run.lasts ∙ fold-append after_event start received rested) in
    let read : Gives (map reading_of events) second fourth = subst (λ (rs : List ℕ). Gives rs second fourth) (sym (map_both reading_of received rested)) (gives_both (map reading_of received) (map reading_of rested) second third fourth hears.gives rests.gives) in
    let readings : Gives (map reading_of (events ++ run.lost)) second last = subst (λ (rs : List ℕ). Gives rs second last) (sym (map_both reading_of events run.lost)) (gives_both (map reading_of events) (map reading_of run.lost) second fourth last read run.gives_lost) in
    let early = run.awaits.early in
    let begins = run.awaits.begun in
    let waited = map rested_at early in
    let telling : Tells start (waited ++ events) untold all_told =
    tells_both start waited events untold begun_told all_told run.awaits.noted
    (subst (λ (f : Fed). Tells f events begun_told all_told) (sym (waits_fed streams opening early run.awaits.waits))
    (tells_both start received rested begun_told heard_told all_told hears.noted rests.noted)) in
    record {
      early = early;
      begun = begins;
      heard = hears.heard;
      rests = rests.rests;
      lost = run.lost;
      gives = subst (λ (rs : List ℕ). Gives rs first last) (append_assoc early (begins ∷ []) (map reading_of (events ++ run.lost))) (gives_both (early ++ begins ∷ []) (map reading_of (events ++ run.lost)) first second last run.awaits.gives readings);
      lost_is = run.lost_is;
      waits = run.awaits.waits;
      begins = run.awaits.begins;
      left_is = hears.left_is ∙ ap (after_letters (map letter_of hears.heard)) run.mid_is ∙ letters_twice later (map letter_of hears.heard) (letters_in run.lost);
      made = all;
      made_is = whole;
      failed = failed;
      posts_are = rests.goes.sends;
      used = stands_used told_left told all rests.goes.stands right rests.goes.all_right;
      needed = subst (λ (f : Fed). AreNeeded f rests.rests) (sym (fed_lasting streams opening received run.lasts)) rests.needed;
      keys_disclosed = λ some none. run.ends all rests.goes.stands some none;
      ended = run.ended;
      noted = telling [] run.untold_yet;
      counts = run.counts ∙ stands_counts told_left told all rests.goes.stands;
      some_failed = run.some_failed;
    }

-- where nothing was lost when it heard
pub record Parts (right : Stream → Bool) (streams : List Stream) (opening : ℕ) (opened begun heard told : OpenFeeds) (heard_left told_left : List Stream) (marks failed : List Bool) (hearing : Hearing) (whole : Bool) (left later : Option (List Letter)) (first second third last : Option Ticking) (posts mid now : List PostSeen) (untold begun_told heard_told all_told : List Note → Type 0) : Type 0 where
  pub lasts : first_lasts opening streams ≡ true
  pub untold_yet : untold []
  pub awaits : Awaits streams opening opened begun first second untold begun_told
  pub hears : EndsHearing hearing right streams opening heard_left (opened_at opening streams) posts heard marks left later second third mid begun_told heard_told
  pub kept : loses_item hearing ≡ false
  pub stops : StopsHearing hearing marks later
  pub rests : (fed : Fed) (firsts : List PostSeen) → Goes right heard_left fed firsts heard mid marks → EndsResting whole right streams opening told_left fed firsts told failed third last now heard_told all_told
  pub stays : list_all has_failed marks ≡ true → failed ≡ marks
  pub ends : (left : List Stream) (fed : Fed) → StandsAll left told fed → whole ≡ true → list_all has_failed failed ≡ false → are_told fed.parts ≡ true

not_false : (a : Bool) → not a ≡ false → a ≡ true
not_false true is = refl
not_false false is = absurd cc

pub feeds_all : (right : Stream → Bool) (streams : List Stream) (opening : ℕ) (opened begun heard told : OpenFeeds) (heard_left told_left : List Stream) (marks failed : List Bool) (hearing : Hearing) (whole : Bool) (result : FeedsEnd) (left later : Option (List Letter)) (first second third last : Option Ticking) (posts mid now : List PostSeen) (untold begun_told heard_told all_told : List Note → Type 0)
    → Parts right streams opening opened begun heard told heard_left told_left marks failed hearing whole left later first second third last posts mid now untold begun_told heard_told all_told
    → (result.link_failed ≡ false → hearing ≡ hearings.LinkFailed → ⊥) → (result.lacking ≡ false → lacks_sender hearing ≡ false) → (not whole ≡ true → result.lacking ≡ true) → result.post_failed ≡ list_any has_failed failed → result.counts ≡ told.feeders.counts
    → Feeds right streams opening result left later first last posts now all_told
feeds_all right streams opening opened begun heard told heard_left told_left marks failed hearing whole result left later first second third last posts mid now untold begun_told heard_told all_told parts link_failed there lacking post_failed counts =
    let hears = hears_all hearing right streams opening heard_left (opened_at opening streams) posts heard marks left later second third mid begun_told heard_told parts.kept parts.hears in
    let ends = parts.rests (fed_after (opened_at opening streams) (map received_of hears.heard)) posts hears.goes in
    let loses = ends.loses in
    feeds_run right streams opening opened begun heard told heard_left told_left marks failed result left later later first second third ends.then last posts mid now untold begun_told heard_told all_told (record {
      lasts = parts.lasts;
      untold_yet = parts.untold_yet;
      awaits = parts.awaits;
      hears = hears;
      rests = ends.rests;
      lost = map rested_at loses.lost;
      gives_lost = loses.gives;
      lost_is = lost_where (not whole) result.lacking streams opening (map rested_at loses.lost) lacking loses.lost_is;
      mid_is = letters_none later ∙ ap (λ (ls : List Letter). after_letters ls later) (sym (rested_letters loses.lost));
      ends = λ fed stands some none. parts.ends told_left fed stands (not_false whole (loses.none (none_rested loses.lost none))) some;
      ended = λ some fault all. ended hearing marks failed later parts.stops (link_failed fault) (there all) parts.stays some;
      some_failed = post_failed;
      counts = counts;
    })

-- where an item was lost
pub feeds_lost : (right : Stream → Bool) (streams : List Stream) (opening : ℕ) (opened begun heard : OpenFeeds) (heard_left : List Stream) (marks : List Bool) (hearing : Hearing) (result : FeedsEnd) (left later : Option (List Letter)) (first second last : Option Ticking) (posts now : List PostSeen) (untold begun_told heard_told : List Note → Type 0)
    → first_lasts opening streams ≡ true → untold [] → Awaits streams opening opened begun first second untold begun_told
    → EndsHearing hearing right streams opening heard_left (opened_at opening streams) posts heard marks left later second last now begun_told heard_told → loses_item hearing ≡ true
    → result.lacking ≡ true → result.post_failed ≡ list_any has_failed marks → result.counts ≡ heard.feeders.counts
    → Feeds right streams opening result left later first last posts now heard_told
feeds_lost right streams opening opened begun heard heard_left marks hearing result left later first second last posts now untold begun_told heard_told lasts untold_yet awaits ends is_lost lacking post_failed counts =
    let hears = ends.hears in
    let loses = ends.loses in
    feeds_run right streams opening opened begun heard heard heard_left heard_left marks marks result left ends.mid later first second ends.then ends.then last posts now now untold begun_told heard_told heard_told (record {
      lasts = lasts;
      untold_yet = untold_yet;
      awaits = awaits;
      hears = hears;
      rests = rests_none right heard_left (fed_after (opened_at opening streams) (map received_of hears.heard)) posts heard marks ends.then now heard_told hears.goes;
      lost = loses.lost;
      gives_lost = loses.gives;
      lost_is = lost_where (loses_item hearing) result.lacking streams opening loses.lost (λ is. lacking) loses.lost_is;
      mid_is = loses.left_is;
      ends = λ fed stands some none. absurd (differ (loses_item hearing) (loses.none none) is_lost);
      ended = λ some fault all. absurd (differ result.lacking all lacking);
      some_failed = post_failed;
      counts = counts;
    })

-- ---- a feed that was asked to end before it began

-- what was counted by then is nothing
pub waits_counts : (streams : List Stream) (opening : ℕ) (left : List Stream) (feeds now : OpenFeeds) (before after : Option Ticking) (told is_told : List Note → Type 0) → StandsAll left feeds (opened_at opening streams) → WaitsOn streams opening feeds now before after told is_told → now.feeders.counts ≡ all_counts (opened_at opening streams)
waits_counts streams opening left feeds now before after told is_told stands on = ap (λ (f : OpenFeeds). f.feeders.counts) on.same ∙ stands_counts left feeds (opened_at opening streams) stands

-- and then it stops
pub stops_early : (over : Bool) (streams : List Stream) (opening : ℕ) (over_left : List Stream) (opened now : OpenFeeds) (result : FeedsEnd) (left : Option (List Letter)) (first last : Option Ticking) (posts : List PostSeen) (untold told : List Note → Type 0) → StandsAll over_left opened (opened_at opening streams) → untold []
    → (over ≡ true) × WaitsOn streams opening opened now first last untold told → result ≡ record { link_failed = false; post_failed = false; lacking = false; counts = now.feeders.counts } → StopsEarly over streams opening result left left first last posts posts told
stops_early over streams opening over_left opened now result left first last posts untold told stands untold_yet asked is =
    let on = asked.1 in
    record {
      asked = asked.0;
      early = on.early;
      gives = on.gives;
      waits = on.waits;
      left_is = refl;
      posts_are = refl;
      noted = on.noted [] untold_yet;
      result_is = is ∙ ap (λ (c : FeedsCounts). let it : FeedsEnd = record { link_failed = false; post_failed = false; lacking = false; counts = c } in it) (waits_counts streams opening over_left opened now first last untold told stands on);
    }

-- ---- where no stream is left

later_empty : (items : List LaterStream) (left : List Stream) → AreLater items left → left ≡ [] → length items ≡ 0
later_empty [] left are none = refl
later_empty (one ∷ items) [] are none = absurd are
later_empty (one ∷ items) (stream ∷ left) are none = absurd cc

-- no sender is lacking
pub none_lacking : (opened begun : OpenFeeds) (last : ℕ) (left : List Stream) → AreLater opened.later.items left → begun ≡ with_reading opened last → left ≡ [] → 0 < begun.later.len → ⊥
none_lacking opened begun last left are same none some =
    let empty = later_empty opened.later.items left are none in
    let length_is : begun.later.len ≡ opened.later.len = ap (λ (f : OpenFeeds). f.later.len) same in
    let is = opened.later.ok.0 in
    omega (arith, empty, length_is, is, some)

pub not_lacking : (hearing told is : Bool) → is ≡ (hearing || not told) → (hearing ≡ true → ⊥) → (told ≡ false → ⊥) → is ≡ false
not_lacking true told is same heard rested = absurd (heard refl)
not_lacking false true is same heard rested = same
not_lacking false false is same heard rested = absurd (rested refl)
