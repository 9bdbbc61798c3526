use Rattle.std.proofs.Common.{◌≡◌, ◌≤◌, ℕ, ap, subst, sym}
use Rattle.tesla_receiver.specs.Stands.{Stands}
use Rattle.tesla_recorder.specs.watched.Watched.{WatchedStands}
use Rattle.tesla_run_receive.specs.watch.Lines.{Columns, chain_columns, counted_at}
use Rattle.tesla_run_receive.specs.watch.Watch.{HoldsStatus}
use Rattle.tesla_run_receive.specs.watch.Written.{HoldsLines}
use Rattle.tesla_run_receive.proofs.watch.Held.{ends_status, holds_status}
use Rattle.tesla_run_receive.proofs.watch.monitoring.MonitoringExtraWatched.end.Goals as goal

pub returns : goal.returns
returns g c extra h begun stands =
    let writer = c.args.begun.writer in
    let counts = c.counts.result in
    let after = subst (λ s. WatchedStands Stands s h) (sym c.compare.ensures.same) stands in
    let chains : writer.chains ≡ extra.chains = ap (λ (them : Columns). them.chains) begun.1.columns_are in
    let (fresh, writes) = c.finish-sink.ensures.writes in
    ends_status (HoldsStatus extra.chains h) c.finish-sink.ensures.name begun.1.name_is begun.1.columns_are
    (λ page holds. holds_status c.args.station.station.config extra.chains h counts page (subst (λ (n : ℕ). n ≤ 8) chains writer.few) begun.0 stands.stood.legal (c.counts.ensures h after)
    (subst (λ (n : ℕ). HoldsLines (chain_columns extra.chains) (counted_at n counts) page) chains holds))
    writes c.close_output.ensures.desk
