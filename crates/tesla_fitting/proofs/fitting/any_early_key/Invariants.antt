use Rattle.std.proofs.Common.{◌≡◌, false, take}
use Rattle.std.specs.List.{list_any, enumerate_from}
use Rattle.tesla_fitting.specs.Fitting.{is_early}
use Rattle.tesla_fitting.proofs.fitting.any_early_key.Given as goal

-- no row so far carries a key too early
abbrev pub invariant-loop-chain : goal.invariant-loop-chain
invariant-loop-chain l = list_any (λ p. is_early l.config l.interval p.0 p.1.key) (enumerate_from 0 (take l.chain l.frame.rows)) ≡ false
