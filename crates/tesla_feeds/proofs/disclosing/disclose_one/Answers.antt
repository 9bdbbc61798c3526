use Rattle.std.proofs.Common.{Some, None}
use Rattle.tesla_feeds.specs.Fed.{disclosed}
use Rattle.tesla_feeds.proofs.Each.{may_hand_one, one_sent}
use Rattle.tesla_feeds.proofs.Sending.{send_none, send_one}
use Rattle.tesla_feeds.proofs.disclosing.disclose_one.Goals as goal

pub returns-in_default-clause-does : goal.returns-in_default-clause-does
returns-in_default-clause-does g c = λ part feeds.
    one_sent (disclosed c.args.reading part) _ c.disclose.new.self None _ _ _ _ (c.in_default.ensures.does part feeds) (send_none _ _)

pub hand-requires-clause-permitted : goal.hand-requires-clause-permitted
hand-requires-clause-permitted g c =
    may_hand_one _ _ c.args.feeder.now (disclosed c.args.reading) _ _ c.requires.may _ (λ part feeds. (c.in-Some.ensures.does part feeds).frames)

pub returns-clause-does : goal.returns-clause-does
returns-clause-does g c = λ part feeds.
    one_sent (disclosed c.args.reading part) _ c.disclose.new.self (Some c.in-Some.length) _ _ _ _ (c.in-Some.ensures.does part feeds) (send_one _ _ _ _ _ c.hand.ensures.hands)
