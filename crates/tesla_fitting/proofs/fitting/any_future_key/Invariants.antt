use Rattle.std.proofs.Common.{◌≡◌, false, take}
use Rattle.std.specs.List.{list_any}
use Rattle.tesla_fitting.specs.Fitting.{is_undisclosed}
use Rattle.tesla_fitting.proofs.fitting.any_future_key.Given as goal

-- each key so far can be disclosed
abbrev pub invariant-loop-place : goal.invariant-loop-place
invariant-loop-place l = list_any (is_undisclosed l.config l.bound) (take l.place l.frame.rows) ≡ false
