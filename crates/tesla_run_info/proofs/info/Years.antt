-- Years and months, one after another.
use Rattle.std.proofs.Common.{◌≡◌, ℕ, zero, suc, ◌+◌, ◌≤◌, Bool, true, false, refl, arith}
use Rattle.std.specs.Prelude.{if◌then◌else◌}
use Rattle.tesla_run_info.specs.info.Calendar.{days_in_year, days_in_years, is_leap}

-- the days of one year more
pub next_year : (years more : ℕ) → more ≡ years + 1 → days_in_years more ≡ days_in_years years + days_in_year (1970 + years)
unfolding days_in_years
next_year years zero e = absurd (omega arith)
next_year years (suc more) e = let same : more ≡ years = omega (arith, e) in rw same refl

year_by : (leap : Bool) → 365 ≤ (if leap then 366 else 365)
year_by true = omega arith
year_by false = omega arith

-- a year has at least 365 days
pub year_some : (year : ℕ) → 365 ≤ days_in_year year
year_some year = year_by (is_leap year)
