use Rattle.std.proofs.Common.{◌∙◌, sym, ap}
use Rattle.tesla_session.proofs.session.SinkWorkerTimePiecesPauseDeskWorkerShared.open.Goals as goal

pub invariant_of-result : goal.invariant_of-result
invariant_of-result g c =
    let pass = c.split_off-pass.ensures.pass in (
      λ cfg is. ap (λ p. p.number) pass ∙ (c.requires.allowed cfg (sym (ap (λ p. p.config) pass) ∙ is)).0,
      (λ cfg is it head payload named due. (c.requires.allowed cfg (sym (ap (λ p. p.config) pass) ∙ is)).1 it head payload (named ∙ c.in_ok-sink.ensures.named) due, tt),
    )
