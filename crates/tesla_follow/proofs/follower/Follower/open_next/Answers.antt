use Rattle.std.proofs.Common.{◌≡◌, Bool, cond, sym, ap, ◌∙◌}
use Rattle.tesla_commit.specs.Parsing.{judged}
use Rattle.tesla_follow.specs.declared.answers.FollowNext.TheVariants.{UsedStream, Opened}
use Rattle.tesla_follow.specs.Followed.{Followed, next_judged}
use Rattle.tesla_follow.specs.Stands.{Keeps}
use Rattle.tesla_follow.proofs.Opened.{knows_are, next_unequal}
use Rattle.tesla_follow.proofs.follower.Follower.open_next.Goals.{After-knows}
use Rattle.tesla_follow.proofs.follower.Follower.open_next.Goals as goal

next : (c : After-knows) (it : Followed) → Keeps c.args.self.now it → cond c.knows.result (UsedStream c.stream-stream.result) Opened ≡ next_judged it (judged c.args.text.now)
next c it k =
    next_unequal it c.in-Ok.setup (judged c.args.text.now) c.first_equal.result c.knows.result c.stream-stream.result c.in-Ok.ensures.exact c.in_default.is c.first_equal.ensures
    (c.knows.ensures ∙ knows_are c.args.self.now it c.stream-stream.result k) c.stream-stream.ensures

pub returns-then-knows-clause-next : goal.returns-then-knows-clause-next
returns-then-knows-clause-next c it k =
    sym (ap (λ (b : Bool). cond b (UsedStream c.stream-stream.result) Opened) c.if-knows.true) ∙ next (goal.at.returns-then-knows-clause-next c).After-knows it k

pub returns-clause-next : goal.returns-clause-next
returns-clause-next c it k =
    sym (ap (λ (b : Bool). cond b (UsedStream c.stream-stream.result) Opened) c.if-knows.false) ∙ next (goal.at.returns-clause-next c).After-knows it k
