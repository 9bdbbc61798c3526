-- The intervals of a stream, and the bound on the sender's interval (RFC 4082, sections 3.2 and 3.5).
use Rattle.std.specs.Prelude.{ℕ, ◌-◌, ◌/◌, ◌≤◌, ℤ, pos, negsuc, ◌+ℤ◌, ◌-ℤ◌, Option, Some, None, nat_le, if◌then◌else◌}

-- when interval 0 begins and how long an interval is, in microseconds, and the last interval
pub record Times : Type 0 where
  pub start : ℕ
  pub length : ℕ
  pub last : ℕ

-- the limits of each schedule
pub record IsSchedule (times : Times) : Type 0 where
  pub shortest : 1000 ≤ times.length
  pub longest : times.length ≤ 3600000000
  pub first : 1 ≤ times.last
  pub most : times.last ≤ 1048576

-- the interval of a reading of the sender's clock; there is none before the start
abbrev pub interval_of : Times → ℕ → Option ℕ
interval_of times reading = if nat_le times.start reading then Some ((reading - times.start) / times.length) else None

-- the interval that many microseconds after the start, none for a negative number
abbrev pub interval_after : ℕ → ℤ → Option ℕ
interval_after length (pos time) = Some (time / length)
interval_after length (negsuc time) = None

-- the last interval that the sender may be in when the receiver's clock gives the reading
unfoldable pub bound_of : Times → ℤ → ℕ → Option ℕ
bound_of times lag reading = interval_after times.length ((pos reading +ℤ lag) -ℤ pos times.start)
