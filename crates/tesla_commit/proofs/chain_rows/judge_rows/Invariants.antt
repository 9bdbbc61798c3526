use Rattle.std.proofs.Common.{◌≡◌, ◌≤◌, ◌+◌, take, drop}
use Rattle.std.specs.List.{AllByRecursion}
use Rattle.tesla_commit.specs.SetupText.{HasKey}
use Rattle.tesla_commit.specs.ChainRows.{first_line, end_line, rows_judged}
use Rattle.tesla_commit.proofs.RowLaws.{onto}
use Rattle.tesla_commit.proofs.chain_rows.judge_rows.Given as goal

abbrev pub invariant-loop-row : goal.invariant-loop-row
invariant-loop-row l = record {
  place : l.line ≡ first_line l.fn.version + l.row-index;
  few : l.line ≤ end_line l.fn.version;
  keys : AllByRecursion HasKey (take l.row-index l.rows);
  so_far : onto (take l.row-index l.rows) (rows_judged l.fn.version l.last l.line l.before (drop l.row-index l.rows)) ≡ rows_judged l.fn.version l.last (first_line l.fn.version) 0 l.rows;
}
