-- What the calls of a station's workers come to in its whole history.
use Rattle.std.specs.Prelude.{◌≡◌, ℕ, suc, ◌+◌, ◌<◌, ◌==◌, nat_lt, Bool, true, List, [], ◌∷◌, ◌++◌, length, map, flat_map, count_by, slice_index_or, Option, Some, if◌then◌else◌}
use Rattle.std.specs.List.{list_all, enumerate_from}
use Rattle.tesla_receiver.specs.declared.history.Arrival.{Arrival}
use Rattle.tesla_receiver.specs.declared.history.Entry.{Entry}
use Rattle.tesla_receiver.specs.declared.history.Entry.TheVariants.{Arrived, Taken, Ended}
use Rattle.tesla_receiver.specs.History.{ends, has_end}
use Rattle.tesla_shared.specs.Workers.{takes_of}

-- how many calls these arrivals of a link are, with its end
abbrev pub link_size : {V : Type 0} → List (Arrival V) → ℕ
link_size arrivals = suc (length arrivals)

-- the arrivals of each link are of its number
abbrev pub ArrivalsNumbered : {V : Type 0} → List (List (Arrival V)) → Type 0
ArrivalsNumbered {V} links = (ingest : ℕ) → list_all (λ (arrival : Arrival V). arrival.ingest == ingest) (slice_index_or links ingest []) ≡ true

module _ {V R : Type 0} where
  -- the arrival of an entry, if it is of this ingest
  abbrev pub arrival_by : ℕ → Entry V R → List (Arrival V)
  arrival_by ingest (Arrived arrival) = if arrival.ingest == ingest then arrival ∷ [] else []
  arrival_by ingest (Taken releaser reply) = []
  arrival_by ingest (Ended other) = []

  -- the arrivals of one ingest, in order
  abbrev pub arrivals_by : ℕ → List (Entry V R) → List (Arrival V)
  arrivals_by ingest history = flat_map (arrival_by ingest) history

  -- the answer to a take, if it is of this releaser
  abbrev pub reply_by : ℕ → Entry V R → List R
  reply_by releaser (Taken taker reply) = if taker == releaser then reply ∷ [] else []
  reply_by releaser (Arrived arrival) = []
  reply_by releaser (Ended ingest) = []

  -- the answers to the takes of one releaser, in order
  abbrev pub replies_by : ℕ → List (Entry V R) → List R
  replies_by releaser history = flat_map (reply_by releaser) history

  -- the calls that were made of a link: its arrivals, and then one end of the ingest
  abbrev pub link_calls : ℕ → List (Arrival V) → List (Entry V R)
  link_calls ingest arrivals = map Arrived arrivals ++ Ended ingest ∷ []

  -- the calls that were made of each link, numbered from the first argument on
  abbrev pub links_made : ℕ → List (List (Arrival V)) → List (List (Entry V R))
  links_made first links = map (λ (p : ℕ × List (Arrival V)). link_calls p.0 p.1) (enumerate_from first links)

  -- the takes that were made for each sink, numbered from the first argument on
  abbrev pub sinks_made : ℕ → List (List R) → List (List (Entry V R))
  sinks_made first sinks = map (λ (p : ℕ × List R). takes_of p.0 p.1) (enumerate_from first sinks)

  -- by number the calls of the passes: the first made none, then there is one for each link, and then one for each sink
  abbrev pub worker_passes : List (List (Arrival V)) → List (List R) → List (Option (List (Entry V R)))
  worker_passes links sinks = Some [] ∷ (map Some (links_made 0 links) ++ map Some (sinks_made 0 sinks))

  -- the number of the pass that makes such an entry, where there are so many links
  abbrev pub pass_of : ℕ → Entry V R → ℕ
  pass_of links (Arrived arrival) = suc arrival.ingest
  pass_of links (Ended ingest) = suc ingest
  pass_of links (Taken releaser reply) = suc (links + releaser)

  -- the entry is one of the workers of so many links and sinks
  abbrev pub is_of_workers : ℕ → ℕ → Entry V R → Bool
  is_of_workers links sinks (Arrived arrival) = nat_lt arrival.ingest links
  is_of_workers links sinks (Ended ingest) = nat_lt ingest links
  is_of_workers links sinks (Taken releaser reply) = nat_lt releaser sinks

  -- the passes are those of workers, which made these arrivals of each link and got these answers for each sink
  pub record AreWorkers (links : List (List (Arrival V))) (sinks : List (List R)) (passes : List (Option (List (Entry V R)))) : Type 0 where
    pub passes_are : passes ≡ worker_passes links sinks
    pub numbered : ArrivalsNumbered links

  -- what the calls of the workers come to in the whole history
  pub record IsWhole (links : List (List (Arrival V))) (sinks : List (List R)) (history : List (Entry V R)) : Type 0 where
    -- every entry is of a worker
    pub workers : list_all (is_of_workers (length links) (length sinks)) history ≡ true
    -- the arrivals of each ingest are those of its link, and there are no others
    pub arrivals : (ingest : ℕ) → arrivals_by ingest history ≡ slice_index_or links ingest []
    -- the answers to the takes of each releaser are those for its sink, and there are no others
    pub replies : (releaser : ℕ) → replies_by releaser history ≡ slice_index_or sinks releaser []
    -- each ingest has ended, once
    pub ended : (ingest : ℕ) → ingest < length links → has_end history ingest ≡ true
    pub ended_once : (ingest : ℕ) → ingest < length links → count_by (ends ingest) history ≡ 1
