use Rattle.std.proofs.Common.{◌≡◌, List, ◌∷◌, Some, true, refl, subst}
use Rattle.tesla_feeds.specs.Fed.{handed_over}
use Rattle.tesla_feeds.specs.Steps.{FeedParts}
use Rattle.tesla_feeds.specs.declared.listed.ListedFeeder.{ListedFeeder}
use Rattle.tesla_feeds.proofs.Lists.{hands_here, may_hand_here}
use Rattle.tesla_feeds.proofs.Sending.{send_one}
use Rattle.tesla_feeds.proofs.stepping.+hand_over_on.Goals as goal

pub hand-requires-clause-permitted : goal.hand-requires-clause-permitted
hand-requires-clause-permitted g t c =
    let whole : c.args.feeders.now ≡ c.in-Some.feeder.now ∷ c.in-Some.behind.now = c.in-Some.ensures.cases.0 in
    may_hand_here (handed_over c.args.reading) c.args.reading c.in-Some.feeder.now c.in-Some.behind.now c.is_on.result c.is_on.ensures _ _ _ _
    c.args.feeders.now whole c.requires.may c.if-not-is_on.false _ (λ part feeds. (c.in-Some-hand_over.ensures.hands part feeds).does.frames)

pub returns-clause-does : goal.returns-clause-does
returns-clause-does g t c = λ parts stands.
    let whole : c.args.feeders.now ≡ c.in-Some.feeder.now ∷ c.in-Some.behind.now = c.in-Some.ensures.cases.0 in
    hands_here (handed_over c.args.reading) c.args.reading c.in-Some.feeder.now c.in-Some.behind.now c.is_on.result c.is_on.ensures c.hand_over.new.self parts (Some c.in-Some-hand_over.length) true _ _ _ _
    c.if-not-is_on.false c.in-Some-hand_over.ensures.hands (send_one _ _ _ _ _ c.hand.ensures.hands) refl (subst (λ (fs : List ListedFeeder). FeedParts fs parts) whole stands)
