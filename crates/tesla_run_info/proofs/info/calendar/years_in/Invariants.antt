use Rattle.std.proofs.Common.{◌≡◌, ◌+◌, ◌≤◌}
use Rattle.tesla_run_info.specs.info.Calendar.{days_in_years}
use Rattle.tesla_run_info.proofs.info.calendar.years_in.Given as goal

abbrev pub invariant-loop-rest : goal.invariant-loop-rest
invariant-loop-rest l = record {
  passed : l.days ≡ days_in_years l.years + l.rest;
  few : l.years + l.rest ≤ l.days;
}

abbrev pub decreases-loop-rest : goal.decreases-loop-rest
decreases-loop-rest l = l.rest
