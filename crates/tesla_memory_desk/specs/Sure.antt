-- A desk on which no outside call fails, and what it tells.
use Rattle.std.specs.Prelude.{ℕ, false, List, [], Option, Some, None, option_map}
use Rattle.tesla_desk.specs.Faults.{no_faults}
use Rattle.tesla_desk.specs.Live.{Live, Wire, HoldsWire, UntoldMail}
use Rattle.tesla_memory_desk.specs.LiveMemory.{MadeClocks, letters_left, link_name_of, readings_in, remainder_in}
use Rattle.tesla_memory_desk.specs.Memory.{rest_answer}
use Rattle.tesla_desk.specs.Outside.{Page, Untold, Holds, Told}
use Rattle.tesla_memory_desk.specs.Stored.{entries_in, left_stored, newest, openings_in, page_stored}
use Rattle.tesla_memory_desk.specs.declared.entries.Named.{Named}
use Rattle.tesla_desk.specs.declared.link.Letter.{Letter}
use Rattle.tesla_desk.specs.declared.source.ReadStep.{ReadStep}
use Rattle.tesla_desk.specs.declared.source.ReadStep.TheVariants.{End}
use Rattle.tesla_memory_desk.specs.declared.stored.StoredPage.{StoredPage}
use Rattle.tesla_memory_desk.specs.declared.stored.StoredRest.{StoredRest}
use Rattle.tesla_memory_desk.specs.declared.stored_letters.StoredLetters.{StoredLetters}
use Rattle.tesla_memory_desk.specs.declared.sure.SureDesk.{SureDesk}
use Rattle.tesla_memory_desk.specs.declared.sure_parts.SureLink.{SureLink}
use Rattle.tesla_memory_desk.specs.declared.sure_parts.SurePost.{SurePost}
use Rattle.tesla_memory_desk.specs.declared.sure_parts.SureSink.{SureSink}
use Rattle.tesla_memory_desk.specs.declared.sure_parts.SureSource.{SureSource}

-- ---- what it opens

-- how often a call of what is opened failed: never
abbrev pub sure_faults_of : {A : Type 0} → A → ℕ
sure_faults_of it = 0

-- what is kept of a source when it is closed
abbrev pub sure_rest_of : SureSource → Named (Option StoredRest)
sure_rest_of source = source.rest

-- the bytes that are left of a source; none are told of one whose page wasn't told
abbrev pub sure_left_of : SureSource → Option (List ℕ)
sure_left_of source = option_map left_stored source.rest.value

abbrev pub sure_source_name_of : SureSource → List ℕ
sure_source_name_of source = source.rest.name

-- what a read into a slice of this length answers: a source that doesn't tell its bytes has none
abbrev pub sure_read_answer : ℕ → Option (List ℕ) → ReadStep
sure_read_answer size None = End
sure_read_answer size (Some left) = rest_answer None size left

abbrev pub sure_sink_name_of : SureSink → List ℕ
sure_sink_name_of sink = sink.name

-- a sink tells nothing
abbrev pub sure_written_of : SureSink → Option (List ℕ)
sure_written_of sink = None

-- the letters that are left of a link
abbrev pub sure_letters_left : SureLink → List Letter
sure_letters_left link = letters_left link.letters

abbrev pub sure_link_name_of : SureLink → List ℕ
sure_link_name_of link = link_name_of link.letters

abbrev pub sure_post_name_of : SurePost → List ℕ
sure_post_name_of post = post.name

-- a post tells nothing
abbrev pub sure_sent_of : SurePost → Option (List (List ℕ))
sure_sent_of post = None

-- ---- the desk

-- a page, where one was put or taken by a sink: one that is missing is empty, and what a sink took isn't told
abbrev pub sure_page_stored : Option (Option StoredPage) → Page
sure_page_stored None = Holds [] false
sure_page_stored (Some None) = Untold
sure_page_stored (Some (Some stored)) = page_stored (Some stored)

-- the page under a name
abbrev pub sure_page_under : SureDesk → List ℕ → Page
sure_page_under desk name = sure_page_stored (newest (entries_in desk.pages) name)

-- what a closed source left, where one was closed and that is told
abbrev pub sure_left_stored : Option (Option StoredRest) → Option (List ℕ)
sure_left_stored None = None
sure_left_stored (Some rest) = option_map left_stored rest

-- what was left of the source that was closed last under a name
abbrev pub sure_left_under : SureDesk → List ℕ → Option (List ℕ)
sure_left_under desk name = sure_left_stored (newest (entries_in desk.rests) name)

-- what is there for links, where letters were put: else there are none
abbrev pub sure_wire_stored : Option StoredLetters → Wire
sure_wire_stored None = HoldsWire []
sure_wire_stored (Some stored) = HoldsWire stored.items.items

-- what is there for links under a name
abbrev pub sure_wire_under : SureDesk → List ℕ → Wire
sure_wire_under desk name = sure_wire_stored (newest (entries_in desk.wires) name)

-- the readings that were put, and how many clocks were made
abbrev pub sure_clocks_of : SureDesk → MadeClocks
sure_clocks_of desk = desk.clocks

-- what the desk has of links, posts and clocks: what posts sent isn't told
abbrev pub sure_live_of : SureDesk → Live
sure_live_of desk = record {
  wire = sure_wire_under desk;
  left = remainder_in (entries_in desk.remainders);
  mail = λ _. UntoldMail;
  readings = Some (readings_in desk.clocks.lists);
  made = Some desk.clocks.made;
}

-- what the desk tells. Its counts of faults are the constant 0
abbrev pub sure_told_by : SureDesk → Told
sure_told_by desk = record {
  page = sure_page_under desk;
  left = sure_left_under desk;
  faults = no_faults;
  openings = Some (openings_in (entries_in desk.asked));
  live = sure_live_of desk;
}

-- the same with other pages
abbrev pub with_pages : (List ℕ → Page) → Told → Told
with_pages pages before = record before { page = pages }

-- the same with other letters for links
abbrev pub with_wires : (List ℕ → Wire) → Told → Told
with_wires wires before = record before { live = record before.live { wire = wires } }

-- the same with other readings of clocks
abbrev pub with_told_readings : Option (ℕ → List ℕ) → Told → Told
with_told_readings readings before = record before { live = record before.live { readings = readings } }

-- what is told where nothing was put, opened or made
abbrev pub nothing_put : Told
nothing_put = record {
  page = λ _. Holds [] false;
  left = λ _. None;
  faults = no_faults;
  openings = Some [];
  live = record { wire = λ _. HoldsWire []; left = λ _. None; mail = λ _. UntoldMail; readings = Some (readings_in []); made = Some 0 };
}
