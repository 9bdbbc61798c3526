use Rattle.std.proofs.Common.{◌∷◌, List, subst, sym}
use Rattle.tesla_relay.specs.declared.tally.SoFar.{SoFar}
use Rattle.tesla_run_relay.specs.watch.Lines.{NoneFalls}
use Rattle.tesla_run_relay.proofs.watch.Told.{none_falls}
use Rattle.tesla_run_relay.proofs.watch.monitor.+raise.Goals as goal

pub returns-in_default-tallies : goal.returns-in_default-tallies
returns-in_default-tallies t c =
    let same : List SoFar = c.in-Some.count.now ∷ c.in-Some.others.now in
    subst (λ (told : List SoFar). NoneFalls told same) (sym c.in-Some.ensures.cases.0) (none_falls same)
