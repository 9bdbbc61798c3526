use Rattle.std.proofs.Common.{◌≡◌, false, replicate}
use Rattle.std.specs.Prelude.{vec_capacity, vec_len}
use Rattle.tesla_state.proofs.ended.unset.Given as goal

-- so many flags so far
abbrev pub invariant-loop : goal.invariant-loop
invariant-loop l = record {
  flags : l.flags.items ≡ replicate l.counter false;
  count : vec_len l.flags ≡ l.counter;
  room : vec_capacity l.flags ≡ vec_capacity l.initial.flags;
}
