use Rattle.std.proofs.Common.{◌≡◌, None, drop, map, take}
use Rattle.tesla_sender.specs.Opening.{AreFresh, first_wrong, opening_chain}
use Rattle.tesla_sender.proofs.chain_opening.opened_chains.Given as goal

abbrev pub invariant-loop-place : goal.invariant-loop-place
invariant-loop-place l = record {
  rest : l.openings.items ≡ drop l.place l.fn.openings.items;
  fresh : AreFresh (take l.place (map opening_chain l.fn.openings.items)) l.chains.items;
  right : first_wrong (take l.place (map opening_chain l.fn.openings.items)) ≡ None;
}
