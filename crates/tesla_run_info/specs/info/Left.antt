-- How much of a stream is left, and at which reading of the clock.
use Rattle.std.specs.Prelude.{◌≡◌, ℕ, ◌+◌, ◌-◌, ◌*◌, ◌/◌, ◌^◌, ◌==◌, Bool, IfSome, unwrap_or}
use Rattle.std.specs.Option.{option_map}
use Rattle.tesla_clock.specs.Schedule.{Times, interval_of}
use Rattle.tesla_desk.specs.Clocks.{next_reading}
use Rattle.tesla_desk.specs.Faults.{raised}
use Rattle.tesla_desk.specs.Live.{Live, clock_told}

-- the microsecond at which the last interval has ended
abbrev pub end_of : Times → ℕ
end_of times = times.start + times.length * (times.last + 1)

-- how many intervals of the stream haven't ended by a reading: 0 behind the last one
abbrev pub left_at : Times → ℕ → ℕ
left_at times reading = times.last + 1 - unwrap_or (interval_of times reading) 0

-- how many whole seconds there are from a reading until the last interval has ended: 0 behind it
abbrev pub seconds_left_at : Times → ℕ → ℕ
seconds_left_at times reading = (end_of times - reading) / 1000000

-- the clock couldn't be read
abbrev pub is_unread : ℕ → Bool
is_unread reading = reading == 2 ^ 64 - 1

-- the next clock gives this reading first, where the desk tells readings
abbrev pub IsFirstReading : ℕ → Live → Type 0
IsFirstReading reading before = IfSome (clock_told before.readings before.made) (λ ticking. reading ≡ next_reading ticking.ahead)

-- what is told of links, posts and clocks, where one clock more was made
abbrev pub with_clock : Live → Live
with_clock before = record before { made = option_map raised before.made }
