use Rattle.std.proofs.Common.{◌+◌, ℕ, List, [], replicate, arith, ◌∙◌, ap}
use Rattle.std.specs.List.{list_any, range_with_len}
use Rattle.tesla_base.specs.Members.{is_in}
use Rattle.tesla_links.specs.Lists.{Lists}
use Rattle.tesla_links.proofs.Keyed.{vacant_more, vacant_none}
use Rattle.tesla_base.proofs.Members.{nowhere_empty, nowhere_set, range_past}
use Rattle.tesla_links.proofs.key_table.vacant_chains.Goals as goal

pub loop-slot-init : goal.loop-slot-init
loop-slot-init c = vacant_none c.args.capacity c.in_ok-chains.chains c.in_ok-chains.ensures

pub append-requires-clause-nowhere : goal.append-requires-clause-nowhere
append-requires-clause-nowhere c =
    let slot = c.loop-slot.slot in
    let empties : List (List ℕ) = replicate (c.args.capacity + 1) [] in
    ap (λ (v : Lists). list_any (is_in slot) v.lists) c.loop-slot.invariant
    ∙ nowhere_set slot empties c.args.capacity (range_with_len 0 slot) (nowhere_empty slot (c.args.capacity + 1)) (range_past slot slot (omega arith))

pub loop-slot-preserved : goal.loop-slot-preserved
loop-slot-preserved c = vacant_more c.args.capacity c.loop-slot.slot c.loop-slot.chains c.append.new.self c.loop-slot.invariant c.append.ensures.slot_count c.append.ensures.lists
