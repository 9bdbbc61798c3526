use Rattle.std.proofs.Common.{◌≡◌, ◌-◌}
use Rattle.tesla_commit.specs.Parsing.{lines}
use Rattle.tesla_seeds.specs.Judged.{keys_judged}
use Rattle.tesla_commit.proofs.RowLaws.{onto}
use Rattle.tesla_seeds.proofs.reading.keys.Given as goal

abbrev pub invariant-loop-line : goal.invariant-loop-line
invariant-loop-line l = onto l.keys.items (keys_judged l.line (l.end - l.line) (lines l.rest)) ≡ keys_judged 2 l.count (lines l.text)
