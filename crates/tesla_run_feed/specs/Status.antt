-- The lines of STATUS, and which notes of a feed have one.
use Rattle.std.specs.Prelude.{◌≡◌, ℕ, ◌+◌, ◌-◌, Bool, true, false, not, ◌&&◌, List, [], ◌∷◌, ◌++◌, flat_map, map, Option, IfSome, codes, if◌then◌else◌}
use Rattle.std.specs.List.{fold}
use Rattle.tesla_clock.specs.Schedule.{Times}
use Rattle.tesla_feed.specs.Fed.{is_unread}
use Rattle.tesla_feed.specs.declared.counts.FeedCounts.{FeedCounts}
use Rattle.tesla_feeds.specs.Notes.{Note}
use Rattle.tesla_feeds.specs.declared.events.FeedsCounts.{FeedsCounts}
use Rattle.tesla_run_feed.specs.Listing.{are_several}
use Rattle.tesla_run_feed.specs.declared.line.SystemCounts.{SystemCounts}
use Rattle.tesla_sender.specs.Made.{interval_at}
use Rattle.tesla_status.specs.Due.{is_due_at, since_after}
use Rattle.tesla_status.specs.Lines.{number_text}
use Rattle.tesla_status.specs.Written.{PutsAll}

-- ---- a line

-- how many intervals of a stream haven't ended by a reading: 0 behind the last one
abbrev pub left_at : Times → ℕ → ℕ
left_at times reading = times.last + 1 - interval_at times reading

-- those of all these streams
abbrev pub left_in : List Times → ℕ → ℕ
left_in [] reading = 0
left_in (times ∷ others) reading = left_at times reading + left_in others reading

-- how many messages and disclosures were sent
unfoldable pub sent_text : FeedCounts → List ℕ
sent_text counts = number_text (codes " messages=") counts.messages ++ number_text (codes " disclosures=") counts.disclosures

-- how many handovers were, where there are several streams
abbrev pub handover_text : Bool → ℕ → List ℕ
handover_text false handovers = []
handover_text true handovers = number_text (codes " handovers=") handovers

-- why messages weren't sent
unfoldable pub refused_text : FeedCounts → List ℕ
refused_text counts =
    number_text (codes " toolong=") counts.too_long ++ number_text (codes " early=") counts.early ++ number_text (codes " over=") counts.over
    ++ number_text (codes " backward=") counts.backward ++ number_text (codes " full=") counts.full ++ number_text (codes " unread=") counts.unread

-- the counts, each behind its name, told whether there are several streams
abbrev pub counts_text : Bool → FeedsCounts → List ℕ
counts_text several counts = sent_text counts.feed ++ (handover_text several counts.handovers ++ refused_text counts.feed)

-- what the system tells beside the counts, of which nothing is claimed: how often a clock gave another reading than the system's, and how many datagrams the system refused to send
unfoldable pub system_text : SystemCounts → List ℕ
system_text system = number_text (codes " held=") system.held ++ number_text (codes " unsent=") system.unsent

-- the line of counts at a reading, which stands behind this word, told the intervals of all streams, and what the system tells beside the counts
unfoldable pub status_line : List Times → List ℕ → ℕ → FeedsCounts → SystemCounts → List ℕ
status_line times word reading counts system =
    number_text word reading ++ (counts_text (are_several times) counts ++ (system_text system ++ (number_text (codes " left=") (left_in times reading) ++ codes "\n")))

-- the line of a note, and the last line of a feed, of which this is the last note
abbrev pub time_line : List Times → SystemCounts → Note → List ℕ
time_line times system note = status_line times (codes "time=") note.reading note.counts system

abbrev pub end_line : List Times → SystemCounts → Note → List ℕ
end_line times system note = status_line times (codes "end=") note.reading note.counts system

-- ---- which notes have a line

-- a note at this reading has one, told since which reading the time is counted: one at which the clock couldn't be read has none
abbrev pub has_line : ℕ → ℕ → ℕ → Bool
has_line every since reading = not (is_unread reading) && is_due_at every since reading

-- since which reading the time is counted behind it
abbrev pub since_at : ℕ → ℕ → ℕ → ℕ
since_at every since reading = if is_unread reading then since else since_after every since reading

abbrev pub since_behind : ℕ → ℕ → List Note → ℕ
since_behind every since notes = fold (λ s note. since_at every s note.reading) since notes

abbrev pub note_where : Bool → Note → List Note
note_where true note = note ∷ []
note_where false note = []

-- those of the notes that have a line, told how many microseconds pass from one to the next, and since which reading they are counted
abbrev pub due_notes : ℕ → ℕ → List Note → List Note
due_notes every since [] = []
due_notes every since (note ∷ notes) = note_where (has_line every since note.reading) note ++ due_notes every (since_at every since note.reading) notes

-- a note that has a line, with what the system told beside it
pub record Line : Type 0 where
  pub note : Note
  pub system : SystemCounts

abbrev pub note_of : Line → Note
note_of line = line.note

abbrev pub line_text : List Times → Line → List ℕ
line_text times line = time_line times line.system line.note

-- the last reading of the notes that could be had, and else that of the opening
abbrev pub last_reading : ℕ → List Note → ℕ
last_reading opening notes = fold (λ last note. if is_unread note.reading then last else note.reading) opening notes

-- ---- what was written

-- these are the lines of the notes that have one, each with what the system told beside it
abbrev pub AreLinesOf : ℕ → ℕ → List Note → List Line → Type 0
AreLinesOf every since notes lines = map note_of lines ≡ due_notes every since notes

-- a new output has the lines of these notes, told when it was opened
pub record HasLines (times : List Times) (every opening since last : ℕ) (notes : List Note) (written : Option (List ℕ)) (faults : ℕ) (failed : Bool) : Type 0 where
  pub before : Option (List ℕ)
  pub empty : IfSome before (λ bytes. bytes ≡ [])
  pub since_is : since ≡ since_behind every opening notes
  pub last_is : last ≡ last_reading opening notes
  pub lines : List Line
  pub are : AreLinesOf every opening notes lines
  pub puts : PutsAll (flat_map (line_text times) lines) before written faults failed

-- and then the last line, of these counts
pub record HasAllLines (times : List Times) (every opening : ℕ) (notes : List Note) (counts : FeedsCounts) (written : Option (List ℕ)) (faults : ℕ) (failed : Bool) : Type 0 where
  pub before : Option (List ℕ)
  pub empty : IfSome before (λ bytes. bytes ≡ [])
  pub lines : List Line
  pub are : AreLinesOf every opening notes lines
  pub system : SystemCounts
  pub puts : PutsAll (flat_map (line_text times) lines ++ end_line times system (record { reading = last_reading opening notes; counts = counts })) before written faults failed
