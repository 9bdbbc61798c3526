-- The interval after a signed number of microseconds.
use Rattle.std.proofs.Common.{◌≡◌, ℕ, ◌/◌, ℤ, pos, negsuc, ◌+ℤ◌, ◌-ℤ◌, ◌<ℤ◌, ◌≤ℤ◌, Some, None, arith, ap}
use Rattle.std.proofs.lemmas.Int.{ints}
use Rattle.tesla_clock.specs.Schedule.{Times, interval_after, bound_of}
use lib.IntN.{nat_abs}

pub none_before : (times : Times) (lag : ℤ) (reading : ℕ) (time : ℤ) → time ≡ (pos reading +ℤ lag) -ℤ pos times.start → time <ℤ pos 0 → None ≡ bound_of times lag reading
unfolding bound_of
none_before times lag reading (pos n) e below = absurd (omega (arith, ints))
none_before times lag reading (negsuc n) e below = ap (interval_after times.length) e

pub some_after : (times : Times) (lag : ℤ) (reading : ℕ) (time : ℤ) → time ≡ (pos reading +ℤ lag) -ℤ pos times.start → pos 0 ≤ℤ time → Some (nat_abs time / times.length) ≡ bound_of times lag reading
unfolding bound_of
some_after times lag reading (pos n) e above = ap (interval_after times.length) e
some_after times lag reading (negsuc n) e above = absurd (omega (arith, ints))
