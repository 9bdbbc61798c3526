use Rattle.std.proofs.Common.{◌∙◌, ◌++◌, List, ℕ, ap, sym, subst, arith}
use Rattle.tesla_counters.specs.Counts.{NoneFalls}
use Rattle.tesla_follow.specs.Counted.{report_over}
use Rattle.tesla_follow.specs.History.{followed}
use Rattle.tesla_follow.specs.Stands.{FollowStands}
use Rattle.tesla_recorder.specs.watched.Watched.{counts_in}
use Rattle.tesla_state.specs.declared.report.Report.{Report}
use Rattle.tesla_follow_station.specs.Counts.{counts_with}
use Rattle.tesla_follow_station.specs.Stands.{CountedState}
use Rattle.tesla_follow_station.proofs.counted.CountedFollower.set.Goals as goal

pub set-requires : goal.set-requires
set-requires c =
    let (h, stood, falls) = c.requires in
    let same = sym c.self.view_is in
    let stands = subst (λ (s : CountedState). FollowStands s.follower h) same stood in
    let told = subst (λ (s : CountedState). NoneFalls s.counts (counts_with (followed s.follower.config h) c.args.by_chain.now)) same falls in
    let made =
    c.joined-counts.ensures ∙ ap (λ (report : Report). counts_in report ++ c.args.by_chain.now ++ c.epoch_counts.result) (c.report.ensures h stands)
    ∙ ap (λ (xs : List ℕ). counts_in (report_over (followed c.self.inside.follower.config h).epochs) ++ c.args.by_chain.now ++ xs) (c.epoch_counts.ensures h stands) in
    (omega arith, (omega arith, subst (λ (counts : List ℕ). NoneFalls c.self.inside.counts.counts counts) (sym made) told))
