use Rattle.std.proofs.Common.{[], List, ℕ, sym, subst}
use Rattle.std.specs.Prelude.{replicate}
use Rattle.tesla_counters.specs.Counts.{NoneFalls}
use Rattle.tesla_follow.specs.History.{followed}
use Rattle.tesla_follow_station.specs.Counts.{counts_with}
use Rattle.tesla_follow_station.proofs.Counts.{falls_zeros}
use Rattle.tesla_follow_station.proofs.counted.CountedFollower.open.Goals as goal

pub set-requires : goal.set-requires
set-requires c =
    let now : List ℕ = counts_with (followed c.args.follower.config []) (replicate 8 0) in
    ([], c.requires, subst (λ (counts : List ℕ). NoneFalls counts now) (sym c.in_ok-counts.ensures.zero.0) (falls_zeros 24 now))
