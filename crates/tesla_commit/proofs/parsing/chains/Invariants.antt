use Rattle.std.proofs.Common.{◌+◌, ◌-◌, ◌≡◌, ◌≤◌, length}
use Rattle.tesla_commit.specs.ChainRows.{first_line, end_line}
use Rattle.tesla_commit.specs.Parsing.{lines, chains_judged}
use Rattle.tesla_commit.proofs.RowLaws.{onto}
use Rattle.tesla_commit.proofs.parsing.chains.Given as goal

abbrev pub invariant-loop-number : goal.invariant-loop-number
invariant-loop-number l = record {
  low : first_line l.fn.version ≤ l.number;
  high : l.number ≤ end_line l.fn.version;
  count : l.number ≡ first_line l.fn.version + length l.rows.items;
  so_far : onto l.rows.items (chains_judged l.fn.version l.last l.number l.before (lines l.rest)) ≡ chains_judged l.fn.version l.last (first_line l.fn.version) 0 (lines l.text);
}

abbrev pub decreases-loop-number : goal.decreases-loop-number
decreases-loop-number l = l.end - l.number
