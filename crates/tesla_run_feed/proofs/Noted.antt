-- The notes of a feed that are written to STATUS: which pieces may come next, and what is known of them behind the feed.
use Rattle.std.proofs.Common.{◌≡◌, ◌∙◌, inl, inr, ℕ, Bool, true, false, List, [], flat_map, Option, Some, None, IfSome, Ok, refl, sym, ap, subst}
use Rattle.tesla_clock.specs.Schedule.{Times}
use Rattle.tesla_desk.specs.Clocks.{Ticking}
use Rattle.tesla_desk.specs.Outside.{OpensSink, Told, with_bytes}
use Rattle.tesla_desk.specs.declared.link.Letter.{Letter}
use Rattle.tesla_desk.proofs.Counts.{cause_as}
use Rattle.tesla_desk.proofs.Told.{first_written}
use Rattle.tesla_feeds.specs.Due.{IsNoted, IsWholeGiven}
use Rattle.tesla_feeds.specs.Feeds.{ComesTo}
use Rattle.tesla_feeds.specs.Notes.{Note}
use Rattle.tesla_feeds.specs.declared.events.FeedsCounts.{FeedsCounts}
use Rattle.tesla_feeds.specs.declared.feeding.FeedsEnd.{FeedsEnd}
use Rattle.tesla_relay.specs.Posts.{PostSeen}
use Rattle.tesla_run_feed.specs.Due.{HasWritten, IsCounted}
use Rattle.tesla_run_feed.specs.Listing.{is_right_stream}
use Rattle.tesla_run_feed.specs.Status.{HasAllLines, HasLines, end_line, has_line, line_text, time_line}
use Rattle.tesla_run_feed.specs.Steps.{FeedsPosts}
use Rattle.tesla_run_feed.specs.declared.line.SystemCounts.{SystemCounts}
use Rattle.tesla_run_feed.specs.declared.telling.Telling.{Telling}
use Rattle.tesla_run_feed.proofs.Told.{has_as}
use Rattle.tesla_sender.specs.Made.{Stream}

-- ---- what was written

-- what a new output tells to be written is what was put
held : (fresh written : Option (List ℕ)) (bytes : List ℕ) → IfSome fresh (λ prefix. prefix ≡ []) → written ≡ with_bytes fresh bytes → IfSome written (λ own. own ≡ bytes)
held fresh None bytes empty is = tt
held fresh (Some own) bytes empty is = first_written fresh (Some own) bytes own empty is refl

-- an output that hasn't failed has the lines
has_written : (times : List Times) (every opening since last : ℕ) (notes : List Note) (written : Option (List ℕ)) (faults : ℕ) (failed : Bool) → failed ≡ false → HasLines times every opening since last notes written faults failed → HasWritten times every opening notes written
has_written times every opening since last notes written faults failed still has =
    record { lines = has.lines; are = has.are; written_is = held has.before written (flat_map (line_text times) has.lines) has.empty (has.puts.all still) }

-- what counts are told by
abbrev pub told_by : List Times → ℕ → ℕ → List ℕ → Telling
told_by times opening every name = record { schedules = times; opening = opening; every = every; name = name }

module _ (gave : ℕ → Bool) (read_for : ℕ → List ℕ → ℕ → Bool) (streams : List Stream) (whole : List Times) (opening every : ℕ) (name own_name : List ℕ) (times : List Times) (own_opening own_every since last : ℕ) (by : told_by times own_opening own_every own_name ≡ told_by whole opening every name) (opened : gave opening ≡ true) (written : Option (List ℕ)) (faults : ℕ) (failed : Bool) where
  times_is : times ≡ whole
  times_is = ap (λ (t : Telling). t.schedules) by

  every_is : own_every ≡ every
  every_is = ap (λ (t : Telling). t.every) by

  opening_is : own_opening ≡ opening
  opening_is = ap (λ (t : Telling). t.opening) by

  -- the output is the one of that name
  pub name_is : own_name ≡ name
  name_is = ap (λ (t : Telling). t.name) by

  module _ (notes : List Note) (has : HasLines times own_every own_opening since last notes written faults failed) where
    has_told : HasLines whole every opening since last notes written faults failed
    has_told = has_as times whole own_every every own_opening opening since since last last notes written faults failed (sym times_is) (sym every_is) (sym opening_is) refl refl has

    -- a note that has a line may be told
    pub counted_next : (note : Note) → IsNoted is_right_stream gave read_for streams notes note → failed ≡ false → has_line own_every since note.reading ≡ true → (system : SystemCounts) → IsCounted gave read_for whole streams every written (time_line times system note)
    counted_next note noted still due system = inl (record {
      opening = opening;
      opened = opened;
      before = notes;
      has = has_written whole every opening since last notes written faults failed still has_told;
      note = note;
      noted = noted;
      due = ap (λ (s : ℕ). has_line every s note.reading) (sym has_told.since_is) ∙ ap (λ (n : ℕ). has_line n since note.reading) (sym every_is) ∙ due;
      system = system;
      piece_is = ap (λ (t : List Times). time_line t system note) times_is;
    })

    -- all lines are those of what counts are told by
    pub has_all : (counts : FeedsCounts) (later : Option (List ℕ)) (count : ℕ) (is : Bool) → HasAllLines times own_every own_opening notes counts later count is → HasAllLines whole every opening notes counts later count is
    has_all counts later count is all =
        subst (λ (t : Telling). HasAllLines t.schedules t.every t.opening notes counts later count is) by all

  -- the last line may be told
  pub counted_last : (counts : FeedsCounts) → IsWholeGiven is_right_stream gave read_for streams counts (λ notes. HasLines times own_every own_opening since last notes written faults failed) → failed ≡ false → (system : SystemCounts)
      → IsCounted gave read_for whole streams every written (end_line times system (record { reading = last; counts = counts }))
  counted_last counts given still system =
      let has = has_told _ given.noted in
      inr (record {
        opening = opening;
        opened = opened;
        counts = counts;
        whole = record {
          opening = given.opening;
          opened = given.opened;
          lasts = given.lasts;
          events = given.events;
          given = given.given;
          used = given.used;
          noted = record {
            has = has_written whole every opening since last _ written faults failed still has;
            system = system;
            piece_is = ap (λ (t : List Times). end_line t system (record { reading = last; counts = counts })) times_is
                ∙ ap (λ (r : ℕ). end_line whole system (record { reading = r; counts = counts })) has.last_is;
          };
          counts_are = given.counts_are;
        };
      })

-- ---- behind a feed

-- what was told of the counts, in other words
pub whole_as : (gave : ℕ → Bool) (read_for : ℕ → List ℕ → ℕ → Bool) (streams : List Stream) (counts : FeedsCounts) (was is : List Note → Type 0) → ((notes : List Note) → was notes → is notes) → IsWholeGiven is_right_stream gave read_for streams counts was → IsWholeGiven is_right_stream gave read_for streams counts is
whole_as gave read_for streams counts was is weaker whole = record {
  opening = whole.opening;
  opened = whole.opened;
  lasts = whole.lasts;
  events = whole.events;
  given = whole.given;
  used = whole.used;
  noted = weaker _ whole.noted;
  counts_are = whole.counts_are;
}

comes_as : (over : Bool) (streams : List Stream) (opening : ℕ) (end : FeedsEnd) (left later : Option (List Letter)) (before after : Option Ticking) (posts posts_now : List PostSeen) (was is : List Note → Type 0) → ((notes : List Note) → was notes → is notes)
    → ComesTo is_right_stream over streams opening end left later before after posts posts_now was → ComesTo is_right_stream over streams opening end left later before after posts posts_now is
comes_as over streams opening end left later before after posts posts_now was is weaker (inl feeds) = inl (record {
  early = feeds.early;
  begun = feeds.begun;
  heard = feeds.heard;
  rests = feeds.rests;
  lost = feeds.lost;
  gives = feeds.gives;
  lost_is = feeds.lost_is;
  waits = feeds.waits;
  begins = feeds.begins;
  left_is = feeds.left_is;
  made = feeds.made;
  made_is = feeds.made_is;
  used = feeds.used;
  failed = feeds.failed;
  posts_are = feeds.posts_are;
  needed = feeds.needed;
  keys_disclosed = feeds.keys_disclosed;
  ended = feeds.ended;
  noted = weaker _ feeds.noted;
  counts = feeds.counts;
  some_failed = feeds.some_failed;
})
comes_as over streams opening end left later before after posts posts_now was is weaker (inr stops) = inr (record {
  asked = stops.asked;
  early = stops.early;
  gives = stops.gives;
  waits = stops.waits;
  left_is = stops.left_is;
  posts_are = stops.posts_are;
  noted = weaker _ stops.noted;
  result_is = stops.result_is;
})

pub feeds_as : (over : Bool) (streams : List Stream) (opening : ℕ) (end : FeedsEnd) (left later : Option (List Letter)) (ticking : Option Ticking) (posts posts_now : List PostSeen) (was is : List Note → Type 0) → ((notes : List Note) → was notes → is notes)
    → FeedsPosts is_right_stream over streams opening end left later ticking posts posts_now was → FeedsPosts is_right_stream over streams opening end left later ticking posts posts_now is
feeds_as over streams opening end left later ticking posts posts_now was is weaker fed =
    record { after = fed.after; comes = comes_as over streams opening end left later ticking fed.after posts posts_now was is weaker fed.comes }

-- ---- the opening of STATUS

-- an output was opened, whatever it is
pub sink_opened : {A : Type 0} (name : List ℕ) (it : A) (before now : Told) → OpensSink {A = A} name (Ok it) before now → OpensSink {A = Unit {0}} name (Ok tt) before now
sink_opened name it before now opens = record {
  refused = tt;
  pages = opens.pages;
  lefts = opens.lefts;
  counts = record {
    reads = opens.counts.reads;
    writes = opens.counts.writes;
    openings = cause_as before.faults.openings now.faults.openings opens.counts.openings (λ e. absurd cc) (λ e. absurd cc);
  };
  asked = opens.asked;
  live = opens.live;
}
