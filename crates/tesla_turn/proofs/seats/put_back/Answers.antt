use Rattle.std.proofs.Common.{rules, ap, sym, ◌∙◌, ◌∷◌, None}
use Rattle.atomic_table.specs.Table.{rest}
use Rattle.tesla_turn.proofs.seats.put_back.Goals as goal

pub exchange-requires : goal.exchange-requires
exchange-requires g c = let empty = c.requires.empty in (search rules, (None, empty ∙ ap (λ cs. (0, None) ∷ rest cs) (sym empty)))
