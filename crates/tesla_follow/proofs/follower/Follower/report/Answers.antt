use Rattle.std.proofs.Common.{◌≡◌, List, ap, sym, subst, ◌∙◌}
use Rattle.tesla_follow.specs.Followed.{open_epochs}
use Rattle.tesla_follow.specs.History.{followed}
use Rattle.tesla_follow.specs.Kept.{counts_with}
use Rattle.tesla_follow.specs.Stands.{EpochState, EpochsStand, FollowState}
use Rattle.tesla_follow.proofs.Opened.{report_all}
use Rattle.tesla_follow.proofs.follower.Follower.report.Goals as goal

pub returns : goal.returns
returns c h st =
    let it = followed c.args.self.now.config h in
    let shown : c.as_slice.result.now ≡ c.args.self.now.receiving = c.as_slice.ensures.value ∙ ap (λ (s : FollowState). s.receiving) c.self.view_is in
    report_all c.args.self.now it c.report_with.result st.keeps
    (c.report_with.ensures (open_epochs it) (subst (λ (ss : List EpochState). EpochsStand ss (open_epochs it)) (sym shown) st.keeps.receiving)
    ∙ ap (λ (s : FollowState). counts_with s.closed (open_epochs it)) c.self.view_is)
