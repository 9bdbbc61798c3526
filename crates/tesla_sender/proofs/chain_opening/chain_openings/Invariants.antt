use Rattle.std.proofs.Common.{◌≡◌, map, take}
use Rattle.tesla_sender.specs.Made.{chains_of}
use Rattle.tesla_sender.specs.Opening.{opening_chain}
use Rattle.tesla_sender.proofs.chain_opening.chain_openings.Given as goal

abbrev pub invariant-loop-number : goal.invariant-loop-number
invariant-loop-number l = map opening_chain l.openings.items ≡ take l.number (chains_of (record { setup = l.setup; seeds = l.seeds }))
