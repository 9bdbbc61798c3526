use Rattle.std.proofs.Common.{◌≡◌, ◌==◌, false, length, take}
use Rattle.std.specs.Prelude.{slice_get, slice_index}
use Rattle.std.specs.List.{list_any}
use Rattle.tesla_links.specs.Lists.{list_of}
use Rattle.tesla_links.proofs.key_table.find_in.Given as goal

abbrev pub invariant-loop : goal.invariant-loop
invariant-loop l = record {
  end : l.end ≡ length (list_of l.chains l.list);
  next : l.next ≡ slice_get (list_of l.chains l.list) l.counter;
  none : list_any (λ p. slice_index l.keys p == l.key) (take l.counter (list_of l.chains l.list)) ≡ false;
}
