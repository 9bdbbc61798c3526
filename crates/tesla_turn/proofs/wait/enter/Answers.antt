use Rattle.std.proofs.Common.{rules, ap, sym, ◌∙◌, ◌∷◌, Some}
use Rattle.atomic_table.specs.Table.{rest}
use Rattle.tesla_turn.proofs.wait.enter.Goals as goal

pub exchange-requires : goal.exchange-requires
exchange-requires g c = let reached = c.await_turn.ensures in (search rules, (Some reached.1, reached.2 ∙ ap (λ cs. (0, Some reached.1) ∷ rest cs) (sym reached.2)))
