use Rattle.std.proofs.Common.{◌≡◌, ◌+◌, ◌*◌, ◌≤◌, ◌++◌, drop}
use Rattle.arrayvec.specs.ArrayString.{array_string_len}
use Rattle.tesla_run_receive.specs.watch.Lines.{chains_text}
use Rattle.tesla_run_receive.proofs.watch.line.add_chains.Given as goal

-- what was added and what is left to add are all of them
abbrev pub invariant-loop-chain : goal.invariant-loop-chain
invariant-loop-chain l = record {
  text : l.line.bytes ++ chains_text l.chain (drop l.chain l.counts) ≡ l.initial.line.bytes ++ chains_text 0 l.counts;
  few : array_string_len l.line ≤ array_string_len l.initial.line + 104 * l.chain;
}
