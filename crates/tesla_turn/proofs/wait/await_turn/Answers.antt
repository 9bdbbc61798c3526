use Rattle.std.proofs.Common.{rules, ap, ◌∙◌}
use Rattle.tesla_turn.proofs.StepsKept.{looks}
use Rattle.tesla_turn.proofs.wait.await_turn.Goals as goal

pub load-found-requires : goal.load-found-requires
load-found-requires g c = let ready = c.requires.ready in let same = c.loop.invariant.1 in (
  search rules,
  search rules,
  looks g.V.Chronicle.config g.V.Chronicle.stands g.V.Permitting.permits _ _ _ _ _ c.args.ticket ready.0.0 (ap (λ m. m.0.phase) same ∙ ready.1) (ap (λ m. m.0.config) same ∙ ready.0.1) (ap (λ m. m.1) same ∙ ready.2),
)
