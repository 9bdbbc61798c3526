-- What is told of the counts of a feed over a list, as events come one after another.
use Rattle.std.proofs.Common.{◌≡◌, ◌∙◌, ℕ, Bool, true, List, [], ◌∷◌, ◌++◌, refl, sym, ap, subst, append_assoc, append-nil}
use Rattle.tesla_sender.specs.Made.{Stream}
use Rattle.tesla_feed.specs.Due.{IsGiven, datagrams_by}
use Rattle.tesla_feed.specs.Fed.{Event, counts_of, reading_of}
use Rattle.tesla_feed.specs.declared.counts.FeedCounts.{FeedCounts}
use Rattle.tesla_feeds.specs.Due.{IsWholeGiven}
use Rattle.tesla_feeds.specs.Events.{FeedAll}
use Rattle.tesla_feeds.specs.Fed.{Fed, after_event}
use Rattle.tesla_feeds.specs.Going.{NotesOn, Tells, fed_after}
use Rattle.tesla_feeds.specs.Later.{are_right_where_used}
use Rattle.tesla_feeds.specs.Notes.{Note, all_counts, note_at, notes_from, notes_of}
use Rattle.tesla_feeds.specs.Opening.{opened_at}
use Rattle.tesla_feeds.specs.declared.events.FeedsCounts.{FeedsCounts}
use Rattle.tesla_feeds.specs.declared.listed.ListedFeeder.{ListedFeeder}
use Rattle.tesla_feeds.proofs.Given.{all_given, comes_events, comes_more, comes_opening, fed_lasting, used_given}

-- feeders that stand for what was made have its counts
pub counts_are : (feeders : List ListedFeeder) (counts : FeedsCounts) (fed : Fed) → FeedAll feeders counts fed → counts ≡ all_counts fed
counts_are feeders counts fed all =
    ap (λ (c : FeedCounts). let it : FeedsCounts = record { feed = c; handovers = counts.handovers } in it) all.feed
    ∙ ap (λ (n : ℕ). let it : FeedsCounts = record { feed = counts_of fed.whole; handovers = n } in it) all.handovers

-- ---- the notes of events one after another

pub notes_both : (fed : Fed) (events more : List Event) → notes_from fed (events ++ more) ≡ notes_from fed events ++ notes_from (fed_after fed events) more
notes_both fed [] more = refl
notes_both fed (event ∷ events) more =
    let now = after_event fed event in
    ap (λ (ns : List Note). note_at event now ∷ ns) (notes_both now events more)

-- no note was told yet
pub tells_none : (fed : Fed) (told : List Note → Type 0) → Tells fed [] told told
tells_none fed told = λ before was. subst (λ (ns : List Note). told ns) (sym (append-nil before)) was

-- that of one event more was
pub tells_more : (fed : Fed) (events : List Event) (event : Event) (counts : FeedsCounts) (told mid now : List Note → Type 0) → Tells fed events told mid
    → counts ≡ all_counts (after_event (fed_after fed events) event) → ((before : List Note) → mid before → now (before ++ record { reading = reading_of event; counts = counts } ∷ []))
    → Tells fed (events ++ event ∷ []) told now
tells_more fed events event counts told mid now tells is noted = λ before was.
    let notes = notes_from fed events in
    let one : Note = record { reading = reading_of event; counts = counts } in
    let same : before ++ notes_from fed (events ++ event ∷ []) ≡ (before ++ notes) ++ one ∷ [] =
    ap (λ (ns : List Note). before ++ ns) (notes_both fed events (event ∷ []))
    ∙ ap (λ (c : FeedsCounts). let last : Note = record { reading = reading_of event; counts = c } in before ++ (notes ++ last ∷ [])) (sym is)
    ∙ sym (append_assoc before notes (one ∷ [])) in
    subst (λ (ns : List Note). now ns) (sym same) (noted (before ++ notes) (tells before was))

-- those of more events were
pub tells_both : (fed : Fed) (events more : List Event) (told mid now : List Note → Type 0) → Tells fed events told mid → Tells (fed_after fed events) more mid now → Tells fed (events ++ more) told now
tells_both fed events more told mid now tells others = λ before was.
    let notes = notes_from fed events in
    let later = notes_from (fed_after fed events) more in
    subst (λ (ns : List Note). now ns) (append_assoc before notes later ∙ ap (λ (ns : List Note). before ++ ns) (sym (notes_both fed events more))) (others (before ++ notes) (tells before was))

-- ---- what may be told

module _ {N : Type 0} (right : Stream → Bool) (was_told : N → List Note → Type 0) (may_note : N → Note → Type 0) (gave : ℕ → Bool) (read_for : ℕ → List ℕ → ℕ → Bool) (streams : List Stream) (number : ℕ) (fed : Fed) (notes : N)
    (on : NotesOn right was_told may_note gave read_for streams number fed notes) where
  -- all counts are those of what came, where they are those of what was made
  pub noted_given : (counts : FeedsCounts) → counts ≡ all_counts fed → IsWholeGiven right gave read_for streams counts (was_told notes)
  noted_given counts is =
      let comes = on.comes in
      record {
        opening = comes.opening;
        opened = comes.opened;
        lasts = comes.lasts;
        events = comes.events;
        given = comes.given;
        used = ap (are_right_where_used right) comes.fed_is ∙ comes.used;
        noted = on.noted;
        counts_are = is ∙ ap all_counts (sym comes.fed_is);
      }

  module _ (event : Event) (given : IsGiven gave read_for number event) (counts : FeedsCounts) (is : counts ≡ all_counts (after_event fed event)) (used : are_right_where_used right (after_event fed event) ≡ true) where
    -- the note of the event
    abbrev one : Note
    one = record { reading = reading_of event; counts = counts }

    notes_more : notes_of streams on.comes.opening (on.comes.events ++ event ∷ []) ≡ notes_of streams on.comes.opening on.comes.events ++ one ∷ []
    notes_more =
        let comes = on.comes in
        let start = opened_at comes.opening streams in
        let notes = notes_from start comes.events in
        let last : Fed → List Note = λ f. notes ++ note_at event f ∷ [] in
        notes_both start comes.events (event ∷ [])
        ∙ ap (λ (f : Fed). last (after_event f event)) (sym (fed_lasting streams comes.opening comes.events comes.lasts) ∙ comes.fed_is)
        ∙ ap (λ (c : FeedsCounts). let it : Note = record { reading = reading_of event; counts = c } in notes ++ it ∷ []) (sym is)

    -- it may be told
    pub noting_may : may_note notes one
    noting_may =
        let comes = on.comes in
        on.may notes (notes_of streams comes.opening comes.events) one on.noted (record {
          opening = comes.opening;
          opened = comes.opened;
          lasts = comes.lasts;
          events = comes.events ++ event ∷ [];
          given = all_given right gave read_for streams number fed event comes given;
          used = used_given right gave read_for streams number fed event comes given used;
          last = notes_more;
        })

    -- and then it was
    pub noting_more : (now : N) → ((before : List Note) → was_told notes before → was_told now (before ++ one ∷ [])) → NotesOn right was_told may_note gave read_for streams (datagrams_by number event) (after_event fed event) now
    noting_more now noted =
        let comes = on.comes in
        record {
          comes = comes_more right gave read_for streams number fed event comes given used;
          noted = subst (λ (o : ℕ). was_told now (notes_of streams o (comes_more right gave read_for streams number fed event comes given used).events)) (sym (comes_opening right gave read_for streams number fed event comes given used))
              (subst (λ (es : List Event). was_told now (notes_of streams comes.opening es)) (sym (comes_events right gave read_for streams number fed event comes given used))
              (subst (λ (ns : List Note). was_told now ns) (sym notes_more) (noted _ on.noted)));
          may = on.may;
        }
