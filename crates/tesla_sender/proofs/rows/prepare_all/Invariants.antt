use Rattle.std.proofs.Common.{◌≡◌, ◌+◌, ◌≤◌, length, map, vec_capacity}
use Rattle.std.specs.List.{AllWithin, sum_by}
use Rattle.tesla_sender.specs.Chains.{chain_in, left_in, reserved_by, CanTag, IsPrepared}
use Rattle.tesla_sender.proofs.rows.prepare_all.Given as goal

abbrev pub invariant-loop-i : goal.invariant-loop-i
invariant-loop-i g l = record {
  count : length l.chains.items ≡ length l.fn.chains.items;
  same : map chain_in l.chains.items ≡ map chain_in l.fn.chains.items;
  done : AllWithin (IsPrepared l.interval) l.chains.items 0 l.i;
  made : AllWithin (CanTag l.interval) l.chains.items l.i (length l.chains.items);
  left : sum_by left_in l.chains.items ≡ sum_by left_in l.fn.chains.items;
  cost : l.steps ≤ l.fn.steps + l.i;
  reserved : reserved_by (vec_capacity l.chains) l.chains.items ≡ reserved_by (vec_capacity l.fn.chains) l.fn.chains.items;
}
