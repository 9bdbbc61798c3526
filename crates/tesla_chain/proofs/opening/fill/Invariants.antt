use Rattle.std.proofs.Common.{◌≡◌, ◌+◌, ℕ, length}
use Rattle.tesla_base.specs.declared.names.Key.{Key}
use Rattle.tesla_prf.specs.Keys.{walk}
use Rattle.tesla_chain.specs.Levels.{Marks, Travellers}
use Rattle.tesla_chain.proofs.opening.fill.Given as goal

abbrev pub invariant-loop-before : goal.invariant-loop-before
invariant-loop-before g l =
    (l.key ≡ walk l.fn.high l.before)
    × (l.steps ≡ l.initial.steps + l.before)
    × (length l.levels ≡ length l.fn.levels)
    × ((seed : Key) (base free : ℕ) → l.fn.high ≡ walk seed base → Marks seed base 0 free l.fn.levels → Marks seed base l.before free l.levels)
    × ((seed : Key) (base : ℕ) → l.fn.high ≡ walk seed base → Travellers seed base l.ahead (base + (l.before + 1)) l.levels)
