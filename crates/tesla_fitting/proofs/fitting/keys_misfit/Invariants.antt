use Rattle.std.proofs.Common.{◌≡◌, false, take}
use Rattle.std.specs.List.{list_any}
use Rattle.tesla_fitting.specs.Fitting.{is_outside}
use Rattle.tesla_fitting.proofs.fitting.keys_misfit.Given as goal

-- each row so far fits
abbrev pub invariant-loop-place : goal.invariant-loop-place
invariant-loop-place l = list_any (is_outside l.config) (take l.place l.frame.rows) ≡ false
