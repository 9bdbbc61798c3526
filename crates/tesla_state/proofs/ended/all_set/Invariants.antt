use Rattle.std.proofs.Common.{◌≡◌, true, take}
use Rattle.std.specs.List.{list_all}
use Rattle.tesla_state.proofs.ended.all_set.Given as goal

-- each flag so far is set
abbrev pub invariant-loop-flag : goal.invariant-loop-flag
invariant-loop-flag l = list_all (λ flag. flag) (take l.flag-index l.flags) ≡ true
