use Rattle.std.proofs.Common.{pos, ◌<ℤ◌, ◌≤ℤ◌, rules, arith}
use Rattle.std.proofs.lemmas.Int.{ints, to_z-of_z}
use Rattle.std.specs.Int.{w128}
use mir.Val.{SFits}
use Rattle.tesla_clock.proofs.Bounds.{none_before, some_after}
use Rattle.tesla_clock.proofs.schedule.Schedule.bound.Goals as goal

pub returns-then-time-lt0 : goal.returns-then-time-lt0
returns-then-time-lt0 c =
    let time = c.since_start-time.result in
    let below : time <ℤ pos 0 = omega (arith, ints) in
    let fits = c.ranges.lag in
    rw (← c.self.view_is) (none_before _ _ _ time (simp to_z-of_z at c.since_start-time.ensures) below)

pub returns : goal.returns
returns c =
    let time = c.since_start-time.result in
    let above : pos 0 ≤ℤ time = omega (arith, ints) in
    let fits = c.ranges.lag in
    let time_fits : SFits w128 time = search rules in
    let same = to_z-of_z w128 time time_fits in
    rw (← c.self.view_is, c.quotient.ensures, same) (some_after (record { start = c.self.inside.start; length = c.self.inside.length; last = c.self.inside.last }) c.args.lag c.args.reading time (simp to_z-of_z at c.since_start-time.ensures) above)
