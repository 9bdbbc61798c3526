-- The wait of a feed over a list for its first interval.
use Rattle.std.proofs.Common.{◌≡◌, ◌∙◌, ℕ, Bool, true, false, List, [], ◌∷◌, ◌++◌, map, Option, refl, sym, ap, subst}
use Rattle.tesla_desk.proofs.Given.{gives_more}
use Rattle.tesla_desk.specs.Clocks.{Ticking, Ticks}
use Rattle.tesla_sender.specs.Made.{Stream}
use Rattle.tesla_feed.specs.Fed.{Event, Rested}
use Rattle.tesla_feed.specs.Feed.{rested_at}
use Rattle.tesla_feed.specs.Steps.{noted}
use Rattle.tesla_feed.proofs.Going.{all_more, map_more}
use Rattle.tesla_feeds.specs.Fed.{Fed, after_event}
use Rattle.tesla_feeds.specs.Going.{Awaits, EndsWaiting, NotesOn, Tells, WaitsOn, fed_after, with_reading}
use Rattle.tesla_feeds.specs.Later.{AreLater, StandsAll, are_right_where_used}
use Rattle.tesla_feeds.specs.Notes.{Note, all_counts}
use Rattle.tesla_feeds.specs.Opening.{opened_at, some_begun, streams_fed}
use Rattle.tesla_feeds.specs.declared.events.Feeders.{Feeders}
use Rattle.tesla_feeds.specs.declared.events.FeedsCounts.{FeedsCounts}
use Rattle.tesla_feeds.specs.declared.opening.OpenFeeds.{OpenFeeds}
use Rattle.tesla_feeds.proofs.Behind.{used_all}
use Rattle.tesla_feeds.proofs.Brought.{stands_counts, with_feeders}
use Rattle.tesla_feeds.proofs.Early.{waits_fed, waits_made}
use Rattle.tesla_feeds.proofs.Noted.{noting_may, noting_more, tells_more, tells_none}

-- no reading was taken yet
pub waits_none : (streams : List Stream) (opening : ℕ) (feeds : OpenFeeds) (told : Option Ticking) (was_told : List Note → Type 0) → WaitsOn streams opening feeds feeds told told was_told was_told
waits_none streams opening feeds told was_told = record {
  early = [];
  gives = refl;
  waits = tt;
  last = feeds.feeders.reading;
  same = refl;
  noted = tells_none (opened_at opening streams) was_told;
}

-- the counts at a rest before the first interval
pub early_counts : (streams : List Stream) (opening reading : ℕ) (counts : FeedsCounts) → some_begun streams opening reading ≡ false → counts ≡ all_counts (opened_at opening streams) → counts ≡ all_counts (after_event (opened_at opening streams) (Rested reading))
early_counts streams opening reading counts none is = is ∙ sym (ap all_counts (waits_made streams opening reading none))

-- a reading was noted
with_noted : (feeds mid : OpenFeeds) (now : Feeders) (last next : ℕ) → mid ≡ with_reading feeds last → now ≡ record mid.feeders { reading = next } → with_feeders mid now ≡ with_reading feeds next
with_noted feeds mid now last next same noting = ap (with_feeders mid) noting ∙ ap (λ (m : OpenFeeds). with_reading m next) same

noted_counts : (feeds mid : OpenFeeds) (now : Feeders) (last next : ℕ) → mid ≡ with_reading feeds last → now ≡ record mid.feeders { reading = next } → now.counts ≡ feeds.feeders.counts
noted_counts feeds mid now last next same noting = ap (λ (f : Feeders). f.counts) noting ∙ ap (λ (m : OpenFeeds). m.feeders.counts) same

-- one more, at which no first interval had begun
pub waits_more : (streams : List Stream) (opening : ℕ) (feeds mid : OpenFeeds) (now : Feeders) (reading : ℕ) (before then after : Option Ticking) (was_told then_told is_told : List Note → Type 0) → WaitsOn streams opening feeds mid before then was_told then_told → Ticks then after reading
    → now ≡ record mid.feeders { reading = noted mid.feeders.reading reading } → some_begun streams opening reading ≡ false → feeds.feeders.counts ≡ all_counts (opened_at opening streams)
    → ((notes : List Note) → then_told notes → is_told (notes ++ record { reading = reading; counts = now.counts } ∷ [])) → WaitsOn streams opening feeds (with_feeders mid now) before after was_told is_told
waits_more streams opening feeds mid now reading before then after was_told then_told is_told on ticks noting early none note =
    let start = opened_at opening streams in
    let events = map rested_at on.early in
    let counts : now.counts ≡ all_counts (after_event (fed_after start events) (Rested reading)) =
    noted_counts feeds mid now on.last (noted mid.feeders.reading reading) on.same noting
    ∙ early_counts streams opening reading feeds.feeders.counts early none
    ∙ ap (λ (f : Fed). all_counts (after_event f (Rested reading))) (sym (waits_fed streams opening on.early on.waits)) in
    record {
      early = on.early ++ reading ∷ [];
      gives = gives_more on.early before then after reading on.gives ticks;
      waits = all_more (λ r. some_begun streams opening r ≡ false) on.early reading on.waits early;
      last = noted mid.feeders.reading reading;
      same = with_noted feeds mid now on.last (noted mid.feeders.reading reading) on.same noting;
      noted = subst (λ (es : List Event). Tells start es was_told is_told) (sym (map_more rested_at on.early reading))
          (tells_more start events (Rested reading) now.counts was_told then_told is_told on.noted counts note);
    }

-- and one at which one had
pub awaits : (streams : List Stream) (opening : ℕ) (feeds mid : OpenFeeds) (now : Feeders) (reading : ℕ) (before then after : Option Ticking) (was_told is_told : List Note → Type 0) → WaitsOn streams opening feeds mid before then was_told is_told → Ticks then after reading
    → now ≡ record mid.feeders { reading = noted mid.feeders.reading reading } → some_begun streams opening reading ≡ true → Awaits streams opening feeds (with_feeders mid now) before after was_told is_told
awaits streams opening feeds mid now reading before then after was_told is_told on ticks noting begun = record {
  early = on.early;
  begun = reading;
  gives = gives_more on.early before then after reading on.gives ticks;
  waits = on.waits;
  begins = begun;
  last = noted mid.feeders.reading reading;
  same = with_noted feeds mid now on.last (noted mid.feeders.reading reading) on.same noting;
  noted = on.noted;
}

-- whether one had is judged by the streams of the feed
pub begun_is : (feeds mid : OpenFeeds) (now : Feeders) (left : List Stream) (last next reading : ℕ) (begun : Bool) → mid ≡ with_reading feeds last → now ≡ record mid.feeders { reading = next } → AreLater feeds.later.items left
    → ((streams : List Stream) → AreLater mid.later.items streams → begun ≡ some_begun (streams_fed now ++ streams) mid.opening reading) → some_begun (streams_fed feeds.feeders ++ left) feeds.opening reading ≡ begun
begun_is feeds mid now left last next reading begun same noting later is =
    sym (is left (subst (λ (m : OpenFeeds). AreLater m.later.items left) (sym same) later)
    ∙ ap (λ (f : Feeders). some_begun (streams_fed f ++ left) mid.opening reading) noting
    ∙ ap (λ (m : OpenFeeds). some_begun (streams_fed m.feeders ++ left) m.opening reading) same)

-- nothing was made by then
pub early_stands : (feeds mid : OpenFeeds) (now : Feeders) (left : List Stream) (last next : ℕ) → mid ≡ with_reading feeds last → now ≡ record mid.feeders { reading = next } → StandsAll left feeds (opened_at feeds.opening (streams_fed feeds.feeders ++ left))
    → now.counts ≡ all_counts (opened_at feeds.opening (streams_fed feeds.feeders ++ left))
early_stands feeds mid now left last next same noting stands =
    noted_counts feeds mid now last next same noting ∙ stands_counts left feeds (opened_at feeds.opening (streams_fed feeds.feeders ++ left)) stands

module _ {N : Type 0} (right : Stream → Bool) (was_told : N → List Note → Type 0) (may_note : N → Note → Type 0) (gave : ℕ → Bool) (read_for : ℕ → List ℕ → ℕ → Bool) (streams : List Stream) (opening : ℕ) (notes : N)
    (on : NotesOn right was_told may_note gave read_for streams 0 (opened_at opening streams) notes) (reading : ℕ) (given : gave reading ≡ true) (counts : FeedsCounts) (early : some_begun streams opening reading ≡ false) (none : counts ≡ all_counts (opened_at opening streams)) where
  early_used : are_right_where_used right (after_event (opened_at opening streams) (Rested reading)) ≡ true
  early_used = ap (are_right_where_used right) (waits_made streams opening reading early) ∙ used_all right [] opening streams refl

  -- the counts before the first interval may be told
  pub early_may : may_note notes (record { reading = reading; counts = counts })
  early_may = noting_may right was_told may_note gave read_for streams 0 (opened_at opening streams) notes on (Rested reading) given counts (early_counts streams opening reading counts early none) early_used

  -- and then they were
  pub early_noting : (now : N) → ((before : List Note) → was_told notes before → was_told now (before ++ record { reading = reading; counts = counts } ∷ [])) → NotesOn right was_told may_note gave read_for streams 0 (opened_at opening streams) now
  early_noting now noted =
      subst (λ (f : Fed). NotesOn right was_told may_note gave read_for streams 0 f now) (waits_made streams opening reading early)
      (noting_more right was_told may_note gave read_for streams 0 (opened_at opening streams) notes on (Rested reading) given counts (early_counts streams opening reading counts early none) early_used now noted)

-- ---- how the wait ended

-- one had begun where the wait tells so
pub has_waited : (over begun : Bool) (streams : List Stream) (opening : ℕ) (feeds now : OpenFeeds) (before after : Option Ticking) (told is_told : List Note → Type 0) → begun ≡ true → EndsWaiting over begun streams opening feeds now before after told is_told → Awaits streams opening feeds now before after told is_told
has_waited over true streams opening feeds now before after told is_told is waits = waits
has_waited over false streams opening feeds now before after told is_told is waits = absurd cc

-- else the gate told that the run was asked to end
pub was_asked : (over begun : Bool) (streams : List Stream) (opening : ℕ) (feeds now : OpenFeeds) (before after : Option Ticking) (told is_told : List Note → Type 0) → begun ≡ false → EndsWaiting over begun streams opening feeds now before after told is_told → (over ≡ true) × WaitsOn streams opening feeds now before after told is_told
was_asked over true streams opening feeds now before after told is_told is waits = absurd cc
was_asked over false streams opening feeds now before after told is_told is waits = waits
