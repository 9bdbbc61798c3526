-- The workers that are wanted: one for each link, and one for each sink.
use Rattle.std.specs.Prelude.{ℕ, suc, List, [], ◌∷◌, ◌++◌}
use Rattle.tesla_desk.specs.Outside.{Opening, OfSink, OfLink}

-- a worker that is wanted: of the link or of the sink under a name, with its number among those of its kind
pub data Wanted : Type 0 where
  WantedLink : (ingest : ℕ) (name : List ℕ) → Wanted
  WantedSink : (releaser : ℕ) (name : List ℕ) → Wanted

-- a worker for each name, numbered from the second argument on
abbrev pub wanted_from : (ℕ → List ℕ → Wanted) → ℕ → List (List ℕ) → List Wanted
wanted_from wanted number [] = []
wanted_from wanted number (name ∷ names) = wanted number name ∷ wanted_from wanted (suc number) names

-- a worker for each link, and one for each sink
abbrev pub links_wanted : ℕ → List (List ℕ) → List Wanted
links_wanted = wanted_from WantedLink

abbrev pub sinks_wanted : ℕ → List (List ℕ) → List Wanted
sinks_wanted = wanted_from WantedSink

-- the workers for links and sinks under these names: of the links, and then of the sinks
abbrev pub wanted_for : List (List ℕ) → List (List ℕ) → List Wanted
wanted_for links sinks = links_wanted 0 links ++ sinks_wanted 0 sinks

-- what is opened for a worker
abbrev pub opening_for : Wanted → Opening
opening_for (WantedLink ingest name) = OfLink name
opening_for (WantedSink releaser name) = OfSink name
