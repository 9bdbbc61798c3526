use Rattle.std.proofs.Common.{◌≡◌, ◌+◌, ◌-◌, ◌<◌, ℕ, length}
use Rattle.tesla_base.specs.declared.names.Key.{Key}
use Rattle.tesla_prf.specs.Keys.{walk}
use Rattle.tesla_chain.specs.Levels.{Marks, Travellers}
use Rattle.tesla_chain.proofs.skipping.walk_down.Given as goal

abbrev pub invariant-loop-done : goal.invariant-loop-done
invariant-loop-done g l =
    (l.walked ≡ walk l.fn.traveller l.done)
    × (l.steps ≡ l.initial.steps + l.done)
    × (length l.levels ≡ length l.fn.levels)
    × ((seed : Key) (base : ℕ) → l.fn.ahead < base → l.fn.traveller ≡ walk seed (base - (l.fn.ahead + 1)) → Marks seed base l.fn.left l.fn.ahead l.fn.levels → Marks seed base l.fn.left (l.fn.ahead - l.done) l.levels)
    × ((seed : Key) (base given reached : ℕ) → Travellers seed base given reached l.fn.levels → Travellers seed base given reached l.levels)
