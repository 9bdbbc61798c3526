use Rattle.std.proofs.Common.{◌+◌, refl, arith}
use Rattle.tesla_run_info.specs.info.Calendar.{days_in_years}
use Rattle.tesla_run_info.proofs.info.Years.{next_year, year_some}
use Rattle.tesla_run_info.proofs.info.calendar.years_in.Goals as goal

pub loop-rest-init : goal.loop-rest-init
unfolding days_in_years
loop-rest-init c = record { passed = omega arith; few = omega arith }

pub loop-rest-preserved : goal.loop-rest-preserved
loop-rest-preserved c =
    let next = next_year c.loop-rest.years (c.loop-rest.years + 1) refl in
    let some = year_some (1970 + c.loop-rest.years) in
    let passed = c.loop-rest.invariant.passed in
    let few = c.loop-rest.invariant.few in
    record {
      passed = omega (arith, next, passed, c.days_in_year.ensures, c.days_in_year-rest.ensures, c.loop-rest-test.true);
      few = omega (arith, some, few, c.days_in_year.ensures, c.days_in_year-rest.ensures, c.loop-rest-test.true);
    }
