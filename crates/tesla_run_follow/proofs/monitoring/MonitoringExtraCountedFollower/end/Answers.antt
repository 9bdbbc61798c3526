use Rattle.std.proofs.Common.{◌≡◌, ◌∙◌, ℕ, List, ap, subst}
use Rattle.tesla_follow_station.specs.Counts.{counts_of}
use Rattle.tesla_follow_station.specs.Stands.{CountedStands}
use Rattle.tesla_run_follow.specs.Status.{HoldsStatus, follow_columns}
use Rattle.tesla_run_receive.specs.watch.Lines.{Columns, Counted, counted_at}
use Rattle.tesla_run_receive.specs.watch.Written.{HoldsLines}
use Rattle.tesla_run_receive.proofs.watch.Held.{ends_status}
use Rattle.tesla_run_follow.proofs.monitoring.MonitoringExtraCountedFollower.end.Goals as goal

pub returns : goal.returns
returns g c extra h begun stands =
    let writer = c.args.begun.writer in
    let counts = c.counts.result in
    let counted : counts ≡ counts_of c.args.station.follower.config h = subst (λ s. CountedStands s h → counts ≡ counts_of s.follower.config h) c.compare.ensures.same (c.counts.ensures h) stands in
    let chains : writer.chains ≡ 8 = ap (λ (them : Columns). them.chains) begun.columns_are in
    let (fresh, writes) = c.finish-sink.ensures.writes in
    ends_status (HoldsStatus c.args.station.follower.config h) c.finish-sink.ensures.name begun.name_is begun.columns_are
    (λ page holds. subst (λ (it : Counted). HoldsLines follow_columns it page) (ap (λ (n : ℕ). counted_at n counts) chains ∙ ap (λ (cs : List ℕ). counted_at 8 cs) counted) holds)
    writes c.close_output.ensures.desk
