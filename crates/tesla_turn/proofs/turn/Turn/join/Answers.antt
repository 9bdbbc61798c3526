use Rattle.std.proofs.Common.{rules, ap, ◌∙◌}
use Rattle.tesla_turn.proofs.StepsKept.{joins}
use Rattle.tesla_turn.proofs.turn.Turn.join.Goals as goal

pub join_seat-requires : goal.join_seat-requires
join_seat-requires g c = let p = c.into.invariant in let q = c.other.invariant in (
  search rules,
  search rules,
  search rules,
  search rules,
  joins g.V.Chronicle.config g.V.Chronicle.stands g.V.Permitting.permits _ _ _ _ _ _ p.live.0 q.live.0 p.live.1 q.live.1 (ap (λ h. h.number) c.into.view_is ∙ c.requires.first) p.idle.0 q.idle.0,
)
