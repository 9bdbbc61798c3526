use Rattle.std.proofs.Common.{◌≡◌, ◌+◌, ◌*◌, ◌≤◌, None, take}
use Rattle.std.specs.List.{sum_by}
use Rattle.tesla_chain.specs.Cost.{W}
use Rattle.tesla_sender.specs.Made.{chains_of}
use Rattle.tesla_sender.specs.Chains.{left_in}
use Rattle.tesla_sender.specs.Opening.{AreFresh, first_wrong}
use Rattle.tesla_sender.proofs.opening.open_chains.Given as goal

abbrev pub invariant-loop-number : goal.invariant-loop-number
invariant-loop-number g l = record {
  fresh : AreFresh (take l.number (chains_of (record { setup = l.setup; seeds = l.seeds }))) l.chains.items;
  right : first_wrong (take l.number (chains_of (record { setup = l.setup; seeds = l.seeds }))) ≡ None;
  cost : l.steps + sum_by left_in l.chains.items ≤ l.fn.steps + l.number * (W l.setup.times.last + l.setup.times.last);
}
