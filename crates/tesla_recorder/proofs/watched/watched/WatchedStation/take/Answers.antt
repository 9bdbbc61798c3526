use Rattle.std.proofs.Common.{◌≡◌, ◌∙◌, Option, ℕ, ap}
use Rattle.tesla_receiver.specs.declared.history.Entry.TheVariants.{Taken}
use Rattle.tesla_state.specs.declared.replies.Reply.{Reply}
use Rattle.tesla_recorder.specs.watched.Chains.{chain_in}
use Rattle.tesla_recorder.proofs.watched.Counted.{counts_stand, stands_counted}
use Rattle.tesla_recorder.proofs.watched.watched.WatchedStation.take.Goals as goal

pub count-requires : goal.count-requires
count-requires g c =
    let (h, few, stood) = c.requires in
    let same = g.met.V.Receiving.shown_is c.take-reply.result c.take-reply.new.into in
    counts_stand g.V.Chronicle.stands _ _ _ _ _ h _ _ few c.self.view_is stood (λ before. c.take-reply.ensures.stands h few before)
    (ap (λ (reply : Reply). chain_in (Taken c.args.releaser reply)) same ∙ c.chain_of.ensures c.args.releaser c.take-reply.new.into)

pub returns-clause-stands : goal.returns-clause-stands
returns-clause-stands g c h few stood =
    let same = g.met.V.Receiving.shown_is c.take-reply.result c.take-reply.new.into in
    stands_counted g.V.Chronicle.stands _ _ _ _ _ _ h _ _ c.self.view_is stood (λ before. c.take-reply.ensures.stands h few before)
    (ap (λ (reply : Reply). chain_in (Taken c.args.releaser reply)) same ∙ c.chain_of.ensures c.args.releaser c.take-reply.new.into) c.count.ensures.stands
