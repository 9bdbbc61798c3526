use Rattle.std.proofs.Common.{◌≡◌, List, [], ◌∷◌, Some, subst}
use Rattle.tesla_sender.specs.Made.{Message}
use Rattle.tesla_feeds.specs.Fed.{said}
use Rattle.tesla_feeds.specs.Steps.{FeedParts}
use Rattle.tesla_feeds.specs.declared.listed.ListedFeeder.{ListedFeeder}
use Rattle.tesla_feeds.proofs.Lists.{does_here, may_hand_here}
use Rattle.tesla_feeds.proofs.Sending.{send_one}
use Rattle.tesla_feeds.proofs.stepping.+say_on.Goals as goal

pub hand-requires-clause-permitted : goal.hand-requires-clause-permitted
hand-requires-clause-permitted g t c =
    let whole : c.args.feeders.now ≡ c.in-Some.feeder.now ∷ c.in-Some.behind.now = c.in-Some.ensures.cases.0 in
    may_hand_here (said c.args.reading c.args.payload.now) c.args.reading c.in-Some.feeder.now c.in-Some.behind.now c.is_on.result c.is_on.ensures _ _ _ _
    c.args.feeders.now whole c.requires.may c.if-not-is_on.false _ (λ part feeds. (c.in-Ok.ensures.does part feeds).frames)

pub returns-in-Ok-clause-does : goal.returns-in-Ok-clause-does
returns-in-Ok-clause-does g t c = λ parts stands.
    let whole : c.args.feeders.now ≡ c.in-Some.feeder.now ∷ c.in-Some.behind.now = c.in-Some.ensures.cases.0 in
    does_here (said c.args.reading c.args.payload.now) c.args.reading c.in-Some.feeder.now c.in-Some.behind.now c.is_on.result c.is_on.ensures (Message c.args.reading c.args.payload.now ∷ []) [] c.say.new.self parts (Some c.in-Ok.length) _ _ _ _
    c.if-not-is_on.false c.in-Ok.ensures.does (send_one _ _ _ _ _ c.hand.ensures.hands) (subst (λ (fs : List ListedFeeder). FeedParts fs parts) whole stands)
