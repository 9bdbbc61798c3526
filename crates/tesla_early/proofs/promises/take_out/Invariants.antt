use Rattle.std.proofs.Common.{◌≡◌}
use Rattle.tesla_early.specs.Ring.{without_below}
use Rattle.tesla_early.proofs.promises.take_out.Given as goal

-- the places so far are out
abbrev pub invariant-loop-place : goal.invariant-loop-place
invariant-loop-place l = record {
  slot_count : l.buckets.slot_count ≡ l.initial.buckets.slot_count;
  reserved : l.buckets.reserved ≡ l.initial.buckets.reserved;
  lists : l.buckets.lists ≡ without_below l.place l.initial.buckets.lists;
}
