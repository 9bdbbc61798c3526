use Rattle.std.proofs.Common.{[], ◌∷◌, ◌++◌, sym, subst}
use Rattle.tesla_receiver.specs.Entries.{Entry}
use Rattle.tesla_receiver.specs.Stands.{Stands}
use Rattle.tesla_shared.proofs.receiving.judge.Goals as goal

pub returns-clause-stands : goal.returns-clause-stands
returns-clause-stands g c h _ stood =
    subst (λ (entry : Entry). Stands c.arrive.new.self (h ++ entry ∷ [])) (sym (c.arrive.ensures.answer h stood)) (c.arrive.ensures.stands h stood)
