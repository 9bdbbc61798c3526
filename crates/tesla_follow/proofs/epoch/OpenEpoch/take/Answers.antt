use Rattle.std.proofs.Common.{◌≡◌, ℕ, take, refl, sym, ap, subst, ◌∙◌}
use Rattle.tesla_early.specs.Payloads.{promise_of}
use Rattle.tesla_early.specs.Kept.{kept_with}
use Rattle.tesla_early.proofs.Keeping.{kept_given}
use Rattle.tesla_state.specs.Replies.{reply_shown}
use Rattle.tesla_state.specs.declared.replies.Reply.{Reply}
use Rattle.tesla_state.specs.declared.replies.Reply.TheVariants as replies
use Rattle.tesla_state.specs.declared.replies.Take.{Take}
use Rattle.tesla_follow.specs.Followed.{FollowedEpoch, asked_with}
use Rattle.tesla_follow.specs.Kept.{reply_of}
use Rattle.tesla_follow.specs.Stands.{EpochStands, EpochState}
use Rattle.tesla_follow.proofs.Epochs.{reply_is, stands_taken}
use Rattle.tesla_follow.proofs.epoch.OpenEpoch.take.Goals.{After-take-take}
use Rattle.tesla_follow.proofs.epoch.OpenEpoch.take.Goals as goal

pub returns-in-Given-clause-stands : goal.returns-in-Given-clause-stands
returns-in-Given-clause-stands c e =
    let i = c.self.inside in
    let into = c.take-take.new.into in
    let head = c.in-Given.head in
    let before : EpochState = record { receiver = i.receiver; promises = i.promises } in
    let after : EpochState = record { receiver = c.take-take.new.self; promises = c.learn_of.new.self } in
    subst (λ (s : EpochState). EpochStands s e → EpochStands after (asked_with c.args.releaser (reply_of e) e)) c.self.view_is
    (λ st.
    stands_taken before after e c.args.releaser (replies.Given head (take head.length into)) st
    (ap (λ (t : Take). reply_shown t into) (sym c.in-Given.is) ∙ reply_is before e (reply_shown c.take-take.result into) st c.take-take.ensures.answer) c.take-take.ensures.stands c.take-take.ensures.config c.learn_of.ensures.most
    (c.learn_of.ensures.kept ∙ ap (λ (n : ℕ). kept_with i.promises.most i.promises.kept (promise_of (take n into))) c.from.ensures))

-- where nothing was given, the promises are as before
none_given : (c : After-take-take) (e : FollowedEpoch) (reply : Reply) → reply_shown c.take-take.result c.take-take.new.into ≡ reply → kept_given c.self.inside.promises.most c.self.inside.promises.kept reply ≡ c.self.inside.promises.kept → EpochStands c.args.self.now e
    → EpochStands (record { receiver = c.take-take.new.self; promises = c.self.inside.promises }) (asked_with c.args.releaser (reply_of e) e)
none_given c e reply is kept =
    let i = c.self.inside in
    let before : EpochState = record { receiver = i.receiver; promises = i.promises } in
    let after : EpochState = record { receiver = c.take-take.new.self; promises = i.promises } in
    subst (λ (s : EpochState). EpochStands s e → EpochStands after (asked_with c.args.releaser (reply_of e) e)) c.self.view_is
    (λ st. stands_taken before after e c.args.releaser reply st (sym is ∙ reply_is before e (reply_shown c.take-take.result c.take-take.new.into) st c.take-take.ensures.answer) c.take-take.ensures.stands c.take-take.ensures.config refl (sym kept))

pub returns-in-Empty-clause-stands : goal.returns-in-Empty-clause-stands
returns-in-Empty-clause-stands c e = none_given (goal.at.returns-in-Empty-clause-stands c).After-take-take e replies.Empty (ap (λ (t : Take). reply_shown t c.take-take.new.into) c.in-Empty.is) refl

pub returns-in-Over-clause-stands : goal.returns-in-Over-clause-stands
returns-in-Over-clause-stands c e = none_given (goal.at.returns-in-Over-clause-stands c).After-take-take e replies.Over (ap (λ (t : Take). reply_shown t c.take-take.new.into) c.in-Over.is) refl
