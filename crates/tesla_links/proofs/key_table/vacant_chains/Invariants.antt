use Rattle.std.proofs.Common.{◌≡◌, ◌+◌, [], replicate}
use Rattle.std.specs.List.{range_with_len}
use Rattle.std.specs.Prelude.{slice_set}
use Rattle.tesla_links.specs.Lists.{Lists}
use Rattle.tesla_links.proofs.key_table.vacant_chains.Given as goal

abbrev pub invariant-loop-slot : goal.invariant-loop-slot
invariant-loop-slot l = ◌≡◌ {A = Lists} l.chains (record { slot_count = l.capacity; lists = slice_set (replicate (l.capacity + 1) []) l.capacity (range_with_len 0 l.slot); reserved = l.chains.reserved })
