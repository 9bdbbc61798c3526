-- Until when nothing is due of the streams of a list.
use Rattle.std.specs.Prelude.{ℕ, ◌+◌, ◌-◌, ◌^◌, Bool, true, false, ◌&&◌, List, [], ◌∷◌, min, nat_le, Option, Some, None, if◌then◌else◌}
use Rattle.std.specs.List.{list_all}
use Rattle.tesla_sender.specs.Made.{Stream, chains_of}
use Rattle.tesla_commit.specs.Parts.{Parts}
use Rattle.tesla_feed.specs.Fed.{disclosed_by, first_interval, is_all_disclosed}
use Rattle.tesla_feed.specs.Steps.{until_begin}
use Rattle.tesla_feeds.specs.Fed.{Part, interval_of_part, is_past}

-- how many microseconds after a reading the first interval of one of these streams begins, the least of all
abbrev pub until_first : List Stream → ℕ → ℕ → ℕ
until_first [] opening reading = 2 ^ 64 - 1
until_first (stream ∷ streams) opening reading =
    min (until_begin stream.setup.times (first_interval stream.setup.times opening) reading) (until_first streams opening reading)

-- another stream follows
abbrev pub is_followed : Option Parts → Bool
is_followed None = false
is_followed (Some next) = true

-- the key of the last interval of a stream was disclosed on every chain
abbrev pub has_told_last : Part → Bool
has_told_last part =
    let times = part.stream.setup.times in
    list_all (λ chain. nat_le times.last (disclosed_by times part.log chain)) (chains_of part.stream)

-- a stream tells no more keys behind a reading: its last interval has ended, another one follows, and the key of that interval was disclosed on every chain
abbrev pub tells_no_more : Part → ℕ → Bool
tells_no_more part reading = is_followed part.next && (is_past part reading && has_told_last part)

-- how many microseconds after a reading the next interval begins of a stream that tells more keys
abbrev pub until_more : Part → ℕ → ℕ
until_more part reading =
    if tells_no_more part reading
    then 2 ^ 64 - 1
    else until_begin part.stream.setup.times (interval_of_part part reading + 1) reading

-- the least of all streams
abbrev pub until_next : List Part → ℕ → ℕ
until_next [] reading = 2 ^ 64 - 1
until_next (part ∷ parts) reading = min (until_more part reading) (until_next parts reading)

-- the key of the last message of a stream, a handover too, was disclosed on every chain
abbrev pub is_told : Part → Bool
is_told part = is_all_disclosed part.stream part.log

-- the same of every stream
abbrev pub are_told : List Part → Bool
are_told parts = list_all is_told parts
