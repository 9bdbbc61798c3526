-- The order of streams in a list, and when one hands over to the next.
use Rattle.std.specs.Prelude.{◌≡◌, ℕ, ◌+◌, ◌*◌, Bool, true, false, not, ◌&&◌, ◌==◌, List, [], ◌∷◌, ◌++◌, max, nat_le, nat_lt, Option, Some, None, if◌then◌else◌}
use Rattle.std.specs.List.{AllByRecursion, fold}
use Rattle.tesla_clock.specs.Schedule.{Times}
use Rattle.tesla_commit.specs.Parts.{Parts}
use Rattle.tesla_commit.specs.SetupText.{setup_text}
use Rattle.tesla_commit.specs.declared.chain_row.ChainRow.{ChainRow}
use Rattle.tesla_rollover.specs.Handover.{handover_mark}
use Rattle.tesla_feeds.specs.declared.order.Disorder.{Disorder}
use Rattle.tesla_feeds.specs.declared.order.Disorder.TheVariants as disorders

-- ---- order

-- when interval 1 begins, and when the last interval ends
abbrev pub begin_of : Times → ℕ
begin_of times = times.start + times.length

abbrev pub end_of : Times → ℕ
end_of times = times.start + (times.last + 1) * times.length

-- interval 1 of the first of these streams begins before the end of the one in front of them
abbrev pub begins_early : Parts → List Parts → Bool
begins_early setup [] = false
begins_early setup (next ∷ setups) = nat_lt (begin_of next.times) (end_of setup.times)

-- these streams follow one another, and have different numbers
abbrev pub AreInOrder : List Parts → Type 0
AreInOrder [] = Unit {0}
AreInOrder (setup ∷ setups) =
    (begins_early setup setups ≡ false)
    × AllByRecursion (λ other. (other.stream.0 == setup.stream.0) ≡ false) setups
    × AreInOrder setups

-- the place of the first of these streams with a number, where they are at this place and behind it
abbrev pub same_number : ℕ → ℕ → List Parts → Option ℕ
same_number number place [] = None
same_number number place (setup ∷ setups) =
    if setup.stream.0 == number then Some place else same_number number (place + 1) setups

-- what is wrong with a stream, or else with those behind it
abbrev pub disorder_at : ℕ → Bool → Option ℕ → Option Disorder → Option Disorder
disorder_at place true same behind = Some (disorders.Overlap place)
disorder_at place false (Some other) behind = Some (disorders.SameStream place other)
disorder_at place false None behind = behind

-- the first pair of these streams that isn't in order, where they are at this place and behind it
abbrev pub disorder_from : ℕ → List Parts → Option Disorder
disorder_from place [] = None
disorder_from place (setup ∷ setups) =
    disorder_at place (begins_early setup setups) (same_number setup.stream.0 (place + 1) setups)
    (disorder_from (place + 1) setups)

-- ---- handovers

-- the greatest delay of a setup's chains
abbrev pub greater_delay : ℕ → ChainRow → ℕ
greater_delay most row = max most row.delay

abbrev pub greatest_delay : Parts → ℕ
greatest_delay setup = fold greater_delay 0 setup.rows

-- the key of the interval is due on every chain before interval 1 of the next stream begins
abbrev pub is_told_before : Times → ℕ → Times → ℕ → Bool
is_told_before times delay next interval =
    (nat_le 1 interval && nat_le interval times.last)
    && nat_lt (times.start + (interval + delay) * times.length) (begin_of next)

-- the interval is one of the last 64 of these
abbrev pub is_in_window : Times → ℕ → Times → ℕ → Bool
is_in_window times delay next interval =
    is_told_before times delay next interval && not (is_told_before times delay next (interval + 64))

-- a stream has an interval in which it may hand over to the next one
abbrev pub has_window : Parts → Parts → Bool
has_window setup next = is_told_before setup.times (greatest_delay setup) next.times 1

-- a handover to a stream: the mark of a handover, and the text of the stream's setup
abbrev pub handover_to : Parts → List ℕ
handover_to next = handover_mark ++ setup_text next
