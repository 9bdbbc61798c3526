-- What is written to STATUS, as notes come one after another.
use Rattle.std.proofs.Common.{◌≡◌, ◌∙◌, ℕ, Bool, true, false, List, [], ◌∷◌, ◌++◌, flat_map, Option, IfSome, append-nil, append_assoc, refl, sym, ap, subst}
use Rattle.std.specs.Prelude.{◌&&◌, if◌then◌else◌, not}
use Rattle.std.proofs.lemmas.List.Concat.{flat_map-append}
use mathlib.Core.List.{map-append}
use Rattle.std.proofs.lemmas.List.Sums.{fold-append}
use Rattle.tesla_clock.specs.Schedule.{Times}
use Rattle.tesla_feed.specs.Fed.{is_unread}
use Rattle.tesla_feeds.specs.Notes.{Note}
use Rattle.tesla_feeds.specs.declared.events.FeedsCounts.{FeedsCounts}
use Rattle.tesla_run_feed.specs.Status.{AreLinesOf, HasAllLines, HasLines, Line, due_notes, end_line, has_line, last_reading, line_text, note_of, note_where, since_at, since_behind, time_line}
use Rattle.tesla_run_feed.specs.declared.line.SystemCounts.{SystemCounts}
use Rattle.tesla_status.specs.Due.{is_due_at, since_after}
use Rattle.tesla_status.specs.Written.{Puts, PutsAll}
use Rattle.tesla_status.proofs.Written.{puts_more, puts_none}

-- ---- notes

-- those that have a line, and one note more
pub due_more : (every since : ℕ) (notes : List Note) (note : Note) → due_notes every since (notes ++ note ∷ []) ≡ due_notes every since notes ++ note_where (has_line every (since_behind every since notes) note.reading) note
due_more every since [] note = append-nil (note_where (has_line every since note.reading) note)
due_more every since (first ∷ notes) note =
    let one = note_where (has_line every since first.reading) first in
    let later = since_at every since first.reading in
    ap (λ (ns : List Note). one ++ ns) (due_more every later notes note)
    ∙ sym (append_assoc one (due_notes every later notes) (note_where (has_line every (since_behind every later notes) note.reading) note))

due_then : (every since : ℕ) (notes : List Note) (note : Note) (due : Bool) → has_line every (since_behind every since notes) note.reading ≡ due → due_notes every since (notes ++ note ∷ []) ≡ due_notes every since notes ++ note_where due note
due_then every since notes note due is = due_more every since notes note ∙ ap (λ (b : Bool). due_notes every since notes ++ note_where b note) is

-- the lines, where that note has one
pub are_more : (every since : ℕ) (notes : List Note) (line : Line) (lines : List Line) → has_line every (since_behind every since notes) line.note.reading ≡ true → AreLinesOf every since notes lines → AreLinesOf every since (notes ++ line.note ∷ []) (lines ++ line ∷ [])
are_more every since notes line lines due are =
    map-append note_of lines (line ∷ []) ∙ ap (λ (ns : List Note). ns ++ line.note ∷ []) are ∙ sym (due_then every since notes line.note true due)

-- and where it has none
pub are_same : (every since : ℕ) (notes : List Note) (note : Note) (lines : List Line) → has_line every (since_behind every since notes) note.reading ≡ false → AreLinesOf every since notes lines → AreLinesOf every since (notes ++ note ∷ []) lines
are_same every since notes note lines none are = are ∙ sym (due_then every since notes note false none ∙ append-nil (due_notes every since notes))

-- their text
text_more : (times : List Times) (lines : List Line) (line : Line) → flat_map (line_text times) (lines ++ line ∷ []) ≡ flat_map (line_text times) lines ++ line_text times line
text_more times lines line =
    flat_map-append (line_text times) lines (line ∷ []) ∙ ap (λ (bytes : List ℕ). flat_map (line_text times) lines ++ bytes) (append-nil (line_text times line))

-- ---- what was told

since_more : (every since : ℕ) (notes : List Note) (note : Note) → since_behind every since (notes ++ note ∷ []) ≡ since_at every (since_behind every since notes) note.reading
since_more every since notes note = fold-append (λ s n. since_at every s n.reading) since notes (note ∷ [])

last_more : (opening : ℕ) (notes : List Note) (note : Note) → last_reading opening (notes ++ note ∷ []) ≡ (if is_unread note.reading then last_reading opening notes else note.reading)
last_more opening notes note = fold-append (λ last n. if is_unread n.reading then last else n.reading) opening notes (note ∷ [])

module _ (times : List Times) (every opening since last : ℕ) (notes : List Note) (note : Note) (old new : Option (List ℕ)) (faults count : ℕ) (was is : Bool) (has : HasLines times every opening since last notes old faults was) where
  line_is : (unread due : Bool) → is_unread note.reading ≡ unread → is_due_at every since note.reading ≡ due → has_line every (since_behind every opening notes) note.reading ≡ (not unread && due)
  line_is unread due read due_is = ap (λ (b : Bool). not b && is_due_at every (since_behind every opening notes) note.reading) read ∙ ap (λ (s : ℕ). not unread && is_due_at every s note.reading) (sym has.since_is) ∙ ap (λ (b : Bool). not unread && b) due_is

  since_now : is_unread note.reading ≡ false → since_after every since note.reading ≡ since_behind every opening (notes ++ note ∷ [])
  since_now read =
      let s = since_behind every opening notes in
      ap (λ (s : ℕ). since_after every s note.reading) has.since_is
      ∙ sym (since_more every opening notes note ∙ ap (λ (b : Bool). if b then s else since_after every s note.reading) read)

  last_now : is_unread note.reading ≡ false → note.reading ≡ last_reading opening (notes ++ note ∷ [])
  last_now read = sym (last_more opening notes note ∙ ap (λ (b : Bool). if b then last_reading opening notes else note.reading) read)

  -- a note at which the clock couldn't be read
  pub told_unread : is_unread note.reading ≡ true → HasLines times every opening since last (notes ++ note ∷ []) old faults was
  told_unread unread =
      let s = since_behind every opening notes in
      record {
        before = has.before;
        empty = has.empty;
        since_is = has.since_is ∙ sym (since_more every opening notes note ∙ ap (λ (b : Bool). if b then s else since_after every s note.reading) unread);
        last_is = has.last_is ∙ sym (last_more opening notes note ∙ ap (λ (b : Bool). if b then last_reading opening notes else note.reading) unread);
        lines = has.lines;
        are = are_same every opening notes note has.lines (line_is true (is_due_at every since note.reading) unread refl) has.are;
        puts = has.puts;
      }

  -- one that has no line
  pub told_undue : is_unread note.reading ≡ false → is_due_at every since note.reading ≡ false → HasLines times every opening (since_after every since note.reading) note.reading (notes ++ note ∷ []) old faults was
  told_undue read undue = record {
    before = has.before;
    empty = has.empty;
    since_is = since_now read;
    last_is = last_now read;
    lines = has.lines;
    are = are_same every opening notes note has.lines (line_is false false read undue) has.are;
    puts = has.puts;
  }

  -- one that has a line, which was put
  pub told_due : is_unread note.reading ≡ false → is_due_at every since note.reading ≡ true → (system : SystemCounts) → Puts (time_line times system note) old new faults count was is → HasLines times every opening (since_after every since note.reading) note.reading (notes ++ note ∷ []) new count is
  told_due read due system puts = let line : Line = record { note = note; system = system } in record {
    before = has.before;
    empty = has.empty;
    since_is = since_now read;
    last_is = last_now read;
    lines = has.lines ++ line ∷ [];
    are = are_more every opening notes line has.lines (line_is false true read due) has.are;
    puts = subst (λ (text : List ℕ). PutsAll text has.before new count is) (sym (text_more times has.lines line))
        (puts_more (flat_map (line_text times) has.lines) (time_line times system note) has.before old new faults count was is has.puts puts);
  }

  -- the last line was put
  pub told_end : (counts : FeedsCounts) (system : SystemCounts) → Puts (end_line times system (record { reading = last; counts = counts })) old new faults count was is → HasAllLines times every opening notes counts new count is
  told_end counts system puts = record {
    before = has.before;
    empty = has.empty;
    lines = has.lines;
    are = has.are;
    system = system;
    puts = subst (λ (r : ℕ). PutsAll (flat_map (line_text times) has.lines ++ end_line times system (record { reading = r; counts = counts })) has.before new count is) has.last_is
        (puts_more (flat_map (line_text times) has.lines) (end_line times system (record { reading = last; counts = counts })) has.before old new faults count was is has.puts puts);
  }

-- nothing was told yet
pub told_none : (times : List Times) (every opening : ℕ) (written : Option (List ℕ)) (faults : ℕ) → IfSome written (λ bytes. bytes ≡ []) → faults ≡ 0 → HasLines times every opening opening opening [] written faults false
told_none times every opening written faults empty none = record { before = written; empty = empty; since_is = refl; last_is = refl; lines = []; are = refl; puts = puts_none written faults none }

-- the same of equal parts
pub has_as : (times own : List Times) (every every_now opening opening_now since since_now last last_now : ℕ) (notes : List Note) (written : Option (List ℕ)) (faults : ℕ) (failed : Bool) → own ≡ times → every_now ≡ every → opening_now ≡ opening → since_now ≡ since → last_now ≡ last → HasLines times every opening since last notes written faults failed
    → HasLines own every_now opening_now since_now last_now notes written faults failed
has_as times own every every_now opening opening_now since since_now last last_now notes written faults failed same_times same_every same_opening same_since same_last has =
    subst (λ (t : List Times). HasLines t every_now opening_now since_now last_now notes written faults failed) (sym same_times)
    (subst (λ (n : ℕ). HasLines times n opening_now since_now last_now notes written faults failed) (sym same_every)
    (subst (λ (n : ℕ). HasLines times every n since_now last_now notes written faults failed) (sym same_opening)
    (subst (λ (n : ℕ). HasLines times every opening n last_now notes written faults failed) (sym same_since)
    (subst (λ (n : ℕ). HasLines times every opening since n notes written faults failed) (sym same_last) has))))
