use Rattle.std.proofs.Common.{◌≡◌, ◌≤◌, ◌-◌, length, reverse, drop, vec_len, vec_capacity}
use Rattle.tesla_early.specs.Woven.{woven}
use Rattle.tesla_early.proofs.weaving.weave.Given as goal

abbrev pub invariant-loop-alloc : goal.invariant-loop-alloc
invariant-loop-alloc l =
    (vec_capacity l.payloads ≡ length l.bodies) × (vec_len l.payloads ≤ length l.bodies)
    × (reverse l.payloads.items ≡ woven l.gap (drop (length l.bodies - vec_len l.payloads) l.names) (drop (length l.bodies - vec_len l.payloads) l.bodies))

abbrev pub decreases-loop-alloc : goal.decreases-loop-alloc
decreases-loop-alloc l = length l.bodies - vec_len l.payloads
