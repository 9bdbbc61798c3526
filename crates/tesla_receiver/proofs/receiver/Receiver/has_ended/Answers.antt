use Rattle.std.proofs.Common.{false, get_or, ap, ◌∙◌}
use Rattle.tesla_state.specs.State.{State}
use Rattle.tesla_receiver.proofs.States.{ended_flag}
use Rattle.tesla_receiver.proofs.receiver.Receiver.has_ended.Goals as goal

pub returns : goal.returns
returns c h st = c.has_ended.ensures ∙ ap (λ (s : State). get_or s.ended c.args.ingest false) (c.deref.ensures ∙ c.self.view_is) ∙ ended_flag c.args.self.now h st c.args.ingest
