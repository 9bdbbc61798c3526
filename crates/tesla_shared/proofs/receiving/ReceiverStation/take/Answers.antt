use Rattle.std.proofs.Common.{[], ◌∷◌, ◌++◌, sym, subst}
use Rattle.tesla_receiver.specs.declared.history.Entry.TheVariants.{Taken}
use Rattle.tesla_state.specs.declared.replies.Reply.{Reply}
use Rattle.tesla_receiver.specs.Stands.{Stands}
use Rattle.tesla_shared.proofs.receiving.ReceiverStation.take.Goals as goal

pub returns-clause-stands : goal.returns-clause-stands
returns-clause-stands c h _ stood =
    subst (λ (reply : Reply). Stands c.take.new.self (h ++ Taken c.args.releaser reply ∷ [])) (sym (c.take.ensures.answer h stood)) (c.take.ensures.stands h stood)
