-- The calendar (ISO 8601): the date and time of a second since 1970, UTC.
use Rattle.std.specs.Prelude.{◌≡◌, ℕ, zero, suc, ◌+◌, ◌*◌, ◌/◌, ◌%◌, ◌<◌, ◌≤◌, Bool, not, ◌&&◌, ◌||◌, ◌==◌, List, [], ◌∷◌, ◌++◌, take, get_or, codes, decimal, nat_lt, if◌then◌else◌}
use Rattle.std.specs.List.{sum}
use Rattle.tesla_run_info.specs.declared.info.calendar.Moment.{Moment}

-- a year has a day more: every fourth, but of those that end a century every fourth
abbrev pub is_leap : ℕ → Bool
is_leap year = (year % 4 == 0) && (not (year % 100 == 0) || (year % 400 == 0))

-- how many days the months of a year have
abbrev pub month_lengths : ℕ → List ℕ
month_lengths year = 31 ∷ (if is_leap year then 29 else 28) ∷ 31 ∷ 30 ∷ 31 ∷ 30 ∷ 31 ∷ 31 ∷ 30 ∷ 31 ∷ 30 ∷ 31 ∷ []

-- how many days a year has
abbrev pub days_in_year : ℕ → ℕ
days_in_year year = if is_leap year then 366 else 365

-- how many days so many years have, 1970 and on
unfoldable pub days_in_years : ℕ → ℕ
days_in_years zero = 0
days_in_years (suc years) = days_in_years years + days_in_year (1970 + years)

-- so many whole days before this date have passed since 1970 began
pub record IsDateOf (days year month day : ℕ) : Type 0 where
  pub years : ℕ
  pub months : ℕ
  pub year_is : year ≡ 1970 + years
  pub month_is : month ≡ months + 1
  pub within : months < 12
  pub first : 1 ≤ day
  pub last : day ≤ get_or (month_lengths year) months 0
  pub passed : days + 1 ≡ days_in_years years + sum (take months (month_lengths year)) + day

-- this is the date, and the time of day, of a second
pub record IsMoment (seconds : ℕ) (it : Moment) : Type 0 where
  pub date : IsDateOf (seconds / 86400) it.year it.month it.day
  pub time : seconds % 86400 ≡ 3600 * it.hour + 60 * it.minute + it.second
  pub minute : it.minute < 60
  pub second : it.second < 60

-- a number below 100 in two digits
abbrev pub two : ℕ → List ℕ
two number = if nat_lt number 10 then codes "0" ++ decimal number else decimal number

-- the text of a date, as 2026-12-01; a year has as many digits as it needs
unfoldable pub date_text : Moment → List ℕ
date_text it = decimal it.year ++ codes "-" ++ two it.month ++ codes "-" ++ two it.day

-- the text of a time of day, as T07:00:00Z
unfoldable pub time_text : Moment → List ℕ
time_text it = codes "T" ++ two it.hour ++ codes ":" ++ two it.minute ++ codes ":" ++ two it.second ++ codes "Z"

-- the text of a moment, as 2026-12-01T07:00:00Z
abbrev pub moment_text : Moment → List ℕ
moment_text it = date_text it ++ time_text it
