use Rattle.std.proofs.Common.{◌≡◌, All}
use Rattle.tesla_bench.proofs.turns.split_for.Given as goal

abbrev pub invariant-loop : goal.invariant-loop
invariant-loop l = (l.first.turn ≡ l.turn) × (l.first.number ≡ l.initial.first.number) × All (λ p. p.turn ≡ l.turn) l.passes.items
