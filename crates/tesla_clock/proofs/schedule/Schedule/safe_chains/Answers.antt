use Rattle.std.proofs.Common.{◌≡◌, ℕ, Bool, length, slice_index, arith}
use Rattle.tesla_clock.specs.Safe.{is_safe}
use Rattle.tesla_clock.proofs.Sets.{set_has}
use Rattle.tesla_clock.proofs.schedule.Schedule.safe_chains.Goals as goal

pub returns-clause-bits : goal.returns-clause-bits
returns-clause-bits c =
    let passed : c.loop-chain.chain ≡ length c.args.delays.now = omega (arith, c.loop-chain-test.false, c.loop-chain.auto.chain-end) in
    let test : ℕ → Bool = λ k. is_safe c.args.bound c.args.interval (slice_index c.args.delays.now k) (slice_index c.args.newest.now k) in
    λ k below. rw (c.loop-chain.invariant.set, passed) (set_has test (length c.args.delays.now) k below)
