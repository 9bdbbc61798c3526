use Rattle.std.proofs.Common.{◌≡◌, length, ap, ◌∙◌, arith}
use Rattle.tesla_follow.specs.Followed.{open_epochs}
use Rattle.tesla_follow.specs.History.{followed}
use Rattle.tesla_follow.specs.Stands.{FollowState}
use Rattle.tesla_follow.proofs.Moved.{stand_count}
use Rattle.tesla_follow.proofs.follower.Follower.open_count.Goals as goal

pub returns : goal.returns
returns c h st =
    let long : c.len.result ≡ length c.self.inside.epochs.items = omega (arith, c.len.ensures) in
    long ∙ ap (λ (s : FollowState). length s.receiving) c.self.view_is ∙ stand_count c.args.self.now.receiving (open_epochs (followed c.args.self.now.config h)) st.keeps.receiving
