-- What a desk in memory keeps.
use Rattle.std.specs.Prelude.{ℕ, List, [], ◌∷◌, ◌++◌, Option, Some, None, option_map, drop, bytes_eq, if◌then◌else◌}
use Rattle.tesla_desk.specs.Outside.{Page, Absent, Holds, Opening, OfSource, OfSink, OfLink, OfPost}
use Rattle.tesla_memory_desk.specs.declared.entries.Entries.{Entries, Empty, Newest'}
use Rattle.tesla_memory_desk.specs.declared.entries.Named.{Named}
use Rattle.tesla_memory_desk.specs.declared.stored.StoredPage.{StoredPage}
use Rattle.tesla_memory_desk.specs.declared.stored.StoredRest.{StoredRest}
use Rattle.tesla_memory_desk.specs.declared.stored.AskedOpening.{AskedOpening}
use Rattle.tesla_memory_desk.specs.declared.stored.AskedOpening.TheVariants.{Source, Sink, Link, Post}

-- the entries, the newest first
abbrev pub entries_in : {A : Type 0} → Entries A → List A
entries_in Empty = []
entries_in (Newest' entry p rest) = entry ∷ entries_in rest

-- the newest value under a name
abbrev pub newest : {A : Type 0} → List (Named A) → List ℕ → Option A
newest [] name = None
newest (entry ∷ rest) name = if bytes_eq entry.name name then Some entry.value else newest rest name

-- all values under a name, the newest first
abbrev pub values_under : {A : Type 0} → List (Named A) → List ℕ → List A
values_under [] name = []
values_under (entry ∷ rest) name = if bytes_eq entry.name name then entry.value ∷ values_under rest name else values_under rest name

-- a page, where one is stored
abbrev pub page_stored : Option StoredPage → Page
page_stored None = Absent
page_stored (Some stored) = Holds stored.bytes.items stored.failed

-- the page under a name
abbrev pub page_in : List (Named StoredPage) → List ℕ → Page
page_in pages name = page_stored (newest pages name)

-- what was left of a closed source
abbrev pub left_stored : StoredRest → List ℕ
left_stored rest = drop rest.at rest.bytes.items

-- what was left of the source that was closed last under a name
abbrev pub left_in : List (Named StoredRest) → List ℕ → Option (List ℕ)
left_in rests name = option_map left_stored (newest rests name)

-- an opening as a desk tells it
abbrev pub opening_of : AskedOpening → Opening
opening_of (Source name) = OfSource name
opening_of (Sink name) = OfSink name
opening_of (Link name) = OfLink name
opening_of (Post name) = OfPost name

-- the openings in the order in which they were asked for, from entries of which the newest is the first
abbrev pub openings_in : List AskedOpening → List Opening
openings_in [] = []
openings_in (asked ∷ before) = openings_in before ++ opening_of asked ∷ []
