-- Which setups and seeds are a list of streams, and faults of others.
use Rattle.std.specs.Prelude.{◌≡◌, ◌<◌, ◌≤◌, ℕ, ◌+◌, Bool, true, false, nat_lt, List, [], ◌∷◌, ◌++◌, length, map, Option, Some, None, codes, if◌then◌else◌}
use Rattle.std.specs.List.{AllByRecursion, list_any}
use Rattle.std.specs.Str.{bytes_eq}
use Rattle.tesla_base.specs.declared.names.Key.{Key}
use Rattle.tesla_clock.specs.Schedule.{Times}
use Rattle.tesla_commit.specs.Parts.{Parts}
use Rattle.tesla_feeds.specs.Order.{disorder_from, has_window}
use Rattle.tesla_feeds.specs.declared.order.Disorder.{Disorder}
use Rattle.tesla_feeds.specs.declared.order.Disorder.TheVariants as disorders
use Rattle.tesla_front.specs.OutcomeView.{OutcomeView, Refused}
use Rattle.tesla_front.specs.Refusal.{refused_line}
use Rattle.tesla_run_feed.specs.declared.listing.ListFault.{ListFault}
use Rattle.tesla_run_feed.specs.declared.listing.ListFault.TheVariants as wrong
use Rattle.tesla_run_feed.specs.declared.listing.SeededSetups.{SeededSetups}
use Rattle.tesla_run_send.specs.Sender.{wrong_line}
use Rattle.tesla_sender.specs.Made.{Stream}

-- ---- streams

-- those of these setups and of these seeds
abbrev pub streams_with : List Parts → List (List Key) → List Stream
streams_with [] seeds = []
streams_with (setup ∷ setups) [] = []
streams_with (setup ∷ setups) (keys ∷ seeds) = record { setup = setup; seeds = keys } ∷ streams_with setups seeds

-- those that were read
abbrev pub streams_in : SeededSetups → List Stream
streams_in it = streams_with it.setups.items it.seeds.items

abbrev pub setup_of : Stream → Parts
setup_of stream = stream.setup

abbrev pub seeds_of : Stream → List Key
seeds_of stream = stream.seeds

abbrev pub times_in : Parts → Times
times_in setup = setup.times

-- the intervals of each of these streams
abbrev pub all_times : List Stream → List Times
all_times streams = map times_in (map setup_of streams)

-- there are more than one
abbrev pub are_several : List Times → Bool
are_several times = nat_lt 1 (length times)

-- each of these streams has a seed for each of its chains
abbrev pub HasSeeds : Stream → Type 0
HasSeeds stream = length stream.seeds ≡ length stream.setup.rows

abbrev pub HaveSeeds : List Stream → Type 0
HaveSeeds streams = AllByRecursion HasSeeds streams

-- no seed is wrong, told the line of the first one that is
abbrev pub is_right_by : Option ℕ → Bool
is_right_by None = true
is_right_by (Some line) = false

-- the seeds of a stream give the keys of its setup
abbrev pub is_right_stream : Stream → Bool
is_right_stream stream = is_right_by (wrong_line stream)

abbrev pub IsRight : Stream → Type 0
IsRight stream = is_right_stream stream ≡ true

-- those of the first of these streams do, where there is one
abbrev pub IsFirstRight : List Stream → Type 0
IsFirstRight [] = Unit {0}
IsFirstRight (stream ∷ streams) = IsRight stream

-- ---- what is wrong with a list

-- where interval 1 of a stream begins before the end of the one in front of it, or a stream before has the same number: the later one of the two
abbrev pub fault_of : Disorder → ListFault
fault_of (disorders.Overlap place) = wrong.Overlap (place + 1)
fault_of (disorders.SameStream first other) = wrong.UsedStream other

-- the places that are told are those of 16 streams
abbrev pub IsPlaced : Disorder → Type 0
IsPlaced (disorders.Overlap place) = place < 16
IsPlaced (disorders.SameStream first other) = other ≤ 16

abbrev pub place_of : ListFault → ℕ
place_of (wrong.Overlap place) = place
place_of (wrong.UsedStream place) = place
place_of (wrong.NoWindow place) = place
place_of (wrong.EqualSeeds place) = place

-- the place of the first of these streams to which the one in front of it has no interval to hand over, where they are at this place and behind it
abbrev pub windowless_from : ℕ → List Parts → Option ℕ
windowless_from place [] = None
windowless_from place (setup ∷ []) = None
windowless_from place (setup ∷ next ∷ setups) =
    if has_window setup next then windowless_from (place + 1) (next ∷ setups) else Some (place + 1)

-- one of these seeds is among those
abbrev pub is_seed_of : List Key → Key → Bool
is_seed_of others seed = list_any (λ (other : Key). bytes_eq seed.0 other.0) others

abbrev pub share_seeds : List Key → List Key → Bool
share_seeds seeds others = list_any (is_seed_of others) seeds

-- the place of the first of these streams that has a seed of one before it, told the seeds of those before, where they are at this place and behind it
abbrev pub shared_from : ℕ → List (List Key) → List (List Key) → Option ℕ
shared_from place before [] = None
shared_from place before (seeds ∷ others) =
    if list_any (share_seeds seeds) before then Some place else shared_from (place + 1) (before ++ seeds ∷ []) others

-- the first of these that is wrong
abbrev pub first_fault : Option Disorder → Option ℕ → Option ℕ → Option ListFault
first_fault (Some disorder) window shared = Some (fault_of disorder)
first_fault None (Some place) shared = Some (wrong.NoWindow place)
first_fault None None (Some place) = Some (wrong.EqualSeeds place)
first_fault None None None = None

abbrev pub fault_with : List Parts → List (List Key) → Option ListFault
fault_with setups seeds = first_fault (disorder_from 0 setups) (windowless_from 0 setups) (shared_from 0 [] seeds)

-- what is wrong with these streams as a list
abbrev pub list_fault : List Stream → Option ListFault
list_fault streams = fault_with (map setup_of streams) (map seeds_of streams)

-- what that comes to: the number of the stream in the list is told, from 1 on, and the cause
abbrev pub list_refused : ListFault → OutcomeView
list_refused (wrong.Overlap place) = Refused 2 (refused_line (codes "setups") (place + 1) (codes "Overlap"))
list_refused (wrong.UsedStream place) = Refused 2 (refused_line (codes "setups") (place + 1) (codes "UsedStream"))
list_refused (wrong.NoWindow place) = Refused 2 (refused_line (codes "setups") (place + 1) (codes "NoWindow"))
list_refused (wrong.EqualSeeds place) = Refused 3 (refused_line (codes "secrets") (place + 1) (codes "EqualSeeds"))

-- setups and seeds are no list of streams, and this comes of it
abbrev pub IsRefusedList : List Parts → List (List Key) → OutcomeView → Type 0
IsRefusedList setups seeds outcome = (fault : ListFault) × (fault_with setups seeds ≡ Some fault) × (outcome ≡ list_refused fault)
