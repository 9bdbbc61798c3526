use Rattle.std.proofs.Common.{◌≡◌, List, ◌++◌, ◌∷◌, [], ℕ, take, refl, sym, ap, ◌∙◌, subst}
use Rattle.tesla_early.specs.Payloads.{promise_of}
use Rattle.tesla_receiver.specs.History.{Takes, entry_of}
use Rattle.tesla_receiver.specs.Entries.{Entry}
use Rattle.tesla_state.specs.declared.replies.Reply.{Reply}
use Rattle.tesla_state.specs.Replies.{reply_shown}
use Rattle.tesla_state.specs.declared.replies.Reply.TheVariants as replies
use Rattle.tesla_state.specs.declared.replies.Take.{Take}
use Rattle.tesla_early.specs.Kept.{kept_with}
use Rattle.tesla_early.specs.Stands.{EarlyStands, EarlyState}
use Rattle.tesla_early.proofs.Keeping.{kept_given, taken_stands}
use Rattle.tesla_early.proofs.early.Early.take.Goals.{After-take-take}
use Rattle.tesla_early.proofs.early.Early.take.Goals as goal

pub returns-in-Given-clause-stands : goal.returns-in-Given-clause-stands
returns-in-Given-clause-stands c h =
    let i = c.self.inside in
    let into = c.take-take.new.into in
    let head = c.in-Given.head in
    let before : EarlyState = record { receiver = i.receiver; promises = i.promises } in
    let after : EarlyState = record { receiver = c.take-take.new.self; promises = c.learn_of.new.self } in
    subst (λ (s : EarlyState). EarlyStands s h → EarlyStands after (h ++ entry_of s.receiver.config h (Takes c.args.releaser) ∷ [])) c.self.view_is
    (λ st.
    taken_stands before after h c.args.releaser (replies.Given head (take head.length into)) st
    (ap (λ (t : Take). reply_shown t into) (sym c.in-Given.is) ∙ c.take-take.ensures.answer h st.receiver) (c.take-take.ensures.stands h st.receiver) c.learn_of.ensures.most
    (c.learn_of.ensures.kept ∙ ap (λ (n : ℕ). kept_with i.promises.most i.promises.kept (promise_of (take n into))) c.from.ensures))

-- where nothing was given, the promises are as before
none_given : (c : After-take-take) (h : List Entry) (reply : Reply) → reply_shown c.take-take.result c.take-take.new.into ≡ reply → kept_given c.self.inside.promises.most c.self.inside.promises.kept reply ≡ c.self.inside.promises.kept → EarlyStands c.args.self.now h
    → EarlyStands (record { receiver = c.take-take.new.self; promises = c.self.inside.promises }) (h ++ entry_of c.args.self.now.receiver.config h (Takes c.args.releaser) ∷ [])
none_given c h reply is kept =
    let i = c.self.inside in
    let before : EarlyState = record { receiver = i.receiver; promises = i.promises } in
    let after : EarlyState = record { receiver = c.take-take.new.self; promises = i.promises } in
    subst (λ (s : EarlyState). EarlyStands s h → EarlyStands after (h ++ entry_of s.receiver.config h (Takes c.args.releaser) ∷ [])) c.self.view_is
    (λ st. taken_stands before after h c.args.releaser reply st (sym is ∙ c.take-take.ensures.answer h st.receiver) (c.take-take.ensures.stands h st.receiver) refl (sym kept))

pub returns-in-Empty-clause-stands : goal.returns-in-Empty-clause-stands
returns-in-Empty-clause-stands c h = none_given (goal.at.returns-in-Empty-clause-stands c).After-take-take h replies.Empty (ap (λ (t : Take). reply_shown t c.take-take.new.into) c.in-Empty.is) refl

pub returns-in-Over-clause-stands : goal.returns-in-Over-clause-stands
returns-in-Over-clause-stands c h = none_given (goal.at.returns-in-Over-clause-stands c).After-take-take h replies.Over (ap (λ (t : Take). reply_shown t c.take-take.new.into) c.in-Over.is) refl
