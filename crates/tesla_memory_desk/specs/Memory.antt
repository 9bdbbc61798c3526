-- What the forms in memory of a source, a sink and a desk hold.
use Rattle.std.specs.Prelude.{◌≡◌, ℕ, min, Bool, true, false, Result, Ok, Err, List, [], ◌∷◌, ◌++◌, length, ◌==◌, ◌&&◌, ◌||◌, nat_lt, if◌then◌else◌, Option, Some, None}
use Rattle.tesla_memory_desk.specs.Calls.{CallNumbers, new_calls, next_fails, after_call}
use Rattle.tesla_desk.specs.Faults.{Faults, no_faults, raised}
use Rattle.tesla_desk.specs.Live.{Live, OpenedLink}
use Rattle.tesla_memory_desk.specs.LiveMemory.{MadeClocks, no_clocks, wire_in, remainder_in, readings_in, mail_in, sent_by, post_faults_of, post_name_of, post_calls_of, post_room_of, letters_left, link_faults_of, link_name_of, link_calls_of, is_absent_wire}
use Rattle.tesla_desk.specs.Outside.{Page, Untold, Absent, Holds, Opening, Opened, Told}
use Rattle.tesla_memory_desk.specs.Settings.{NamedSettings, no_settings, room_for, piece_for, failing_for, within_piece}
use Rattle.tesla_memory_desk.specs.Stored.{entries_in, page_in, left_in, left_stored, openings_in}
use Rattle.tesla_desk.specs.declared.desk.OpenRefusal.{OpenRefusal}
use Rattle.tesla_desk.specs.declared.desk.OpenRefusal.TheVariants as refusals
use Rattle.tesla_desk.specs.declared.source.ReadStep.{ReadStep}
use Rattle.tesla_desk.specs.declared.source.ReadStep.TheVariants.{Got, End, Failed as ReadFailed}
use Rattle.tesla_desk.specs.declared.sink.WriteStep.{WriteStep}
use Rattle.tesla_desk.specs.declared.sink.WriteStep.TheVariants.{Took, Failed as WriteFailed}
use Rattle.tesla_memory_desk.specs.declared.entries.Named.{Named}
use Rattle.tesla_memory_desk.specs.declared.letters.Letters.{Letters}
use Rattle.tesla_memory_desk.specs.declared.stored_letters.StoredLetters.{StoredLetters}
use Rattle.tesla_memory_desk.specs.declared.stored_letters.StoredRemainder.{StoredRemainder}
use Rattle.tesla_memory_desk.specs.declared.outbox.Outbox.{Outbox}
use Rattle.tesla_memory_desk.specs.declared.stored_mail.StoredMail.{StoredMail}
use Rattle.tesla_memory_desk.specs.declared.stored.StoredRest.{StoredRest}
use Rattle.tesla_memory_desk.specs.declared.pages.Pages.{Pages}
use Rattle.tesla_memory_desk.specs.declared.heap.Heap.{Heap}
use Rattle.tesla_memory_desk.specs.declared.memory.MemoryDesk.{MemoryDesk}

-- the bytes that weren't read yet
abbrev pub unread : Pages → List ℕ
unread pages = left_stored pages.kept.entry.value

-- the name that a source was opened under
abbrev pub source_name_of : Pages → List ℕ
source_name_of pages = pages.kept.entry.name

-- what is kept of a source when it is closed
abbrev pub stored_of : Pages → Named StoredRest
stored_of pages = pages.kept.entry

-- how often a read of a source in memory failed
abbrev pub read_faults_of : Pages → ℕ
read_faults_of pages = pages.kept.faults

-- the reads of a source, by number
abbrev pub read_calls_of : Pages → CallNumbers
read_calls_of pages = pages.kept.calls

-- the greatest piece that a read moves, where one was set
abbrev pub read_piece_of : Pages → Option ℕ
read_piece_of pages = pages.piece

-- what a read under a greatest piece, if there is one, into a slice of this length answers, where these bytes are left
abbrev pub rest_answer : Option ℕ → ℕ → List ℕ → ReadStep
rest_answer piece size left = if length left == 0 then End else Got (within_piece piece (min size (length left)))

-- what a read into a slice of this length answers
abbrev pub read_answer : ℕ → Pages → ReadStep
read_answer size pages = if next_fails (read_calls_of pages) then ReadFailed else rest_answer (read_piece_of pages) size (unread pages)

-- the name that a sink was opened under
abbrev pub name_of : Heap → List ℕ
name_of heap = heap.kept.entry.name

-- the bytes that were written
abbrev pub bytes_of : Heap → List ℕ
bytes_of heap = heap.kept.entry.value.bytes.items

-- how often a write failed, or took nothing of a piece that was not empty
abbrev pub write_faults_of : Heap → ℕ
write_faults_of heap = heap.kept.faults

-- the writes of a sink, by number
abbrev pub write_calls_of : Heap → CallNumbers
write_calls_of heap = heap.kept.calls

-- the greatest piece that a write takes, where one was set
abbrev pub write_piece_of : Heap → Option ℕ
write_piece_of heap = heap.piece

-- how many bytes a sink still takes
abbrev pub room_of : Heap → ℕ
room_of heap = heap.room

-- what a write of a piece of this length answers
abbrev pub write_answer : ℕ → Heap → WriteStep
write_answer size heap = if next_fails (write_calls_of heap) then WriteFailed else Took (min (within_piece (write_piece_of heap) size) (room_of heap))

-- how many bytes a write took
abbrev pub taken : WriteStep → ℕ
taken (Took n) = n
taken WriteFailed = 0

-- whether the write failed, or took none of the bytes that there were
abbrev pub stalls : List ℕ → WriteStep → Bool
stalls piece (Took n) = (n == 0) && nat_lt 0 (length piece)
stalls piece WriteFailed = true

-- the count of a sink after a write of the piece with this answer
abbrev pub faults_after : List ℕ → WriteStep → ℕ → ℕ
faults_after piece step before = if stalls piece step then raised before else before

-- the page that a desk has under a name
abbrev pub page_under : MemoryDesk → List ℕ → Page
page_under desk name = page_in (entries_in desk.pages) name

-- what was left of the source that a desk closed last under a name
abbrev pub left_under : MemoryDesk → List ℕ → Option (List ℕ)
left_under desk name = left_in (entries_in desk.rests) name

-- the bytes of a page, where there are any
abbrev pub bytes_in : Page → Option (List ℕ)
bytes_in Untold = None
bytes_in Absent = None
bytes_in (Holds bytes failed) = Some bytes

-- whether there is no page
abbrev pub is_absent : Page → Bool
is_absent Untold = false
is_absent Absent = true
is_absent (Holds bytes failed) = false

-- the counts of a desk
abbrev pub counts_of : MemoryDesk → Faults
counts_of desk = record { reads = desk.reads; writes = desk.writes; openings = desk.openings }

-- the openings that a desk was asked for, in order
abbrev pub openings_of : MemoryDesk → List Opening
openings_of desk = openings_in (entries_in desk.asked)

-- what a desk has of links, posts and clocks
abbrev pub live_of : MemoryDesk → Live
live_of desk = record {
  wire = wire_in (entries_in desk.wires);
  left = remainder_in (entries_in desk.remainders);
  mail = mail_in (entries_in desk.mails);
  readings = Some (readings_in desk.clocks.lists);
  made = Some desk.clocks.made;
}

-- what a desk tells: all of it
abbrev pub told_by : MemoryDesk → Told
told_by desk = record { page = page_under desk; left = left_under desk; faults = counts_of desk; openings = Some (openings_of desk); live = live_of desk }

-- what a desk was told of the objects that it opens
abbrev pub settings_of : MemoryDesk → NamedSettings
settings_of desk = desk.settings

-- the openings of a desk, by number
abbrev pub opening_calls_of : MemoryDesk → CallNumbers
opening_calls_of desk = desk.calls

-- what a desk has beside its pages
pub record Rest : Type 0 where
  pub closed : List (Named StoredRest)
  pub counts : Faults
  pub openings : List Opening
  pub settings : NamedSettings
  pub calls : CallNumbers
  pub wires : List (Named StoredLetters)
  pub remainders : List (Named StoredRemainder)
  pub mails : List (Named StoredMail)
  pub clocks : MadeClocks

abbrev pub rest_of : MemoryDesk → Rest
rest_of desk = record {
  closed = entries_in desk.rests;
  counts = counts_of desk;
  openings = openings_of desk;
  settings = settings_of desk;
  calls = opening_calls_of desk;
  wires = entries_in desk.wires;
  remainders = entries_in desk.remainders;
  mails = entries_in desk.mails;
  clocks = desk.clocks;
}

-- nothing closed, no faults, no opening, nothing set, no letters, no mail, no readings and no clock made, and each sink and post takes this many bytes
abbrev pub new_rest : ℕ → Rest
new_rest room = record { closed = []; counts = no_faults; openings = []; settings = no_settings room; calls = new_calls []; wires = []; remainders = []; mails = []; clocks = no_clocks }

-- the same after the closing of a source
abbrev pub after_closed : Named StoredRest → Faults → Rest → Rest
after_closed rest counts before = record before { closed = rest ∷ before.closed; counts = counts }

-- the same with other settings
abbrev pub with_settings : (NamedSettings → NamedSettings) → Rest → Rest
with_settings change before = record before { settings = change before.settings }

-- the same with other clocks
abbrev pub with_clocks : (MadeClocks → MadeClocks) → Rest → Rest
with_clocks change before = record before { clocks = change before.clocks }

-- the same with other numbers of openings
abbrev pub with_opening_calls : (CallNumbers → CallNumbers) → Rest → Rest
with_opening_calls change before = record before { calls = change before.calls }

-- one opening more, which was counted
abbrev pub after_counted : Opening → Rest → Rest
after_counted opening before = record before { openings = before.openings ++ opening ∷ []; calls = after_call before.calls }

-- one opening more that failed
abbrev pub after_failed : Rest → Rest
after_failed before = record before { counts = record before.counts { openings = raised before.counts.openings } }

-- the same after an opening that was asked for. One that found no memory is not counted
abbrev pub after_asked : {A : Type 0} → Opening → Result A OpenRefusal → Rest → Rest
after_asked opening (Ok it) before = after_counted opening before
after_asked opening (Err refusals.Failed) before = after_failed (after_counted opening before)
after_asked opening (Err refusals.NoMemory) before = before

-- an opening is answered by Failed exactly where it is refused; want of memory may come in place of either answer
abbrev pub Refuses : {A : Type 0} → Bool → Result A OpenRefusal → Type 0
Refuses refused (Ok it) = refused ≡ false
Refuses refused (Err refusals.Failed) = refused ≡ true
Refuses refused (Err refusals.NoMemory) = Unit {0}

-- whether the next opening is refused if it is one of a source under the name: it fails by its number, or there is no page
abbrev pub refuses_source : MemoryDesk → List ℕ → Bool
refuses_source desk name = next_fails (opening_calls_of desk) || is_absent (page_under desk name)

-- a new source has the bytes of the page, and what was set for the name
pub record NewSource (desk : MemoryDesk) (name : List ℕ) (it : Pages) : Type 0 where
  pub named : source_name_of it ≡ name
  pub opened : Opened (page_under desk name) (Some (unread it))
  pub faults : read_faults_of it ≡ 0
  pub calls : read_calls_of it ≡ new_calls (failing_for (settings_of desk) name)
  pub piece : read_piece_of it ≡ piece_for (settings_of desk) name

-- an empty sink under this name, with this room, this greatest piece, if there is one, and these calls
pub record MadeSink (name : List ℕ) (room : ℕ) (piece : Option ℕ) (calls : CallNumbers) (it : Heap) : Type 0 where
  pub named : name_of it ≡ name
  pub empty : bytes_of it ≡ []
  pub faults : write_faults_of it ≡ 0
  pub room_is : room_of it ≡ room
  pub calls_are : write_calls_of it ≡ calls
  pub piece_is : write_piece_of it ≡ piece

-- a new sink has what was set for the name
abbrev pub NewSink : MemoryDesk → List ℕ → Heap → Type 0
NewSink desk name = MadeSink name (room_for (settings_of desk) name) (piece_for (settings_of desk) name) (new_calls (failing_for (settings_of desk) name))

-- whether the next opening is refused if it is one of a link under the name: it fails by its number, or there is nothing for it
abbrev pub refuses_link : MemoryDesk → List ℕ → Bool
refuses_link desk name = next_fails (opening_calls_of desk) || is_absent_wire ((live_of desk).wire name)

-- a new link has the letters that are there for it, and what was set for the name
pub record NewLink (desk : MemoryDesk) (name : List ℕ) (it : Letters) : Type 0 where
  pub named : link_name_of it ≡ name
  pub opened : OpenedLink ((live_of desk).wire name) (Some (letters_left it))
  pub faults : link_faults_of it ≡ 0
  pub calls : link_calls_of it ≡ new_calls (failing_for (settings_of desk) name)

-- the same after the closing of a link
abbrev pub after_closed_link : Named StoredRemainder → Faults → Rest → Rest
after_closed_link remainder counts before = record before { remainders = remainder ∷ before.remainders; counts = counts }

-- a post under this name that has sent nothing, with this room and these calls
pub record MadePost (name : List ℕ) (room : ℕ) (calls : CallNumbers) (it : Outbox) : Type 0 where
  pub named : post_name_of it ≡ name
  pub empty : sent_by it ≡ []
  pub faults : post_faults_of it ≡ 0
  pub room_is : post_room_of it ≡ room
  pub calls_are : post_calls_of it ≡ calls

-- a new post has what was set for the name
abbrev pub NewPost : MemoryDesk → List ℕ → Outbox → Type 0
NewPost desk name = MadePost name (room_for (settings_of desk) name) (new_calls (failing_for (settings_of desk) name))
