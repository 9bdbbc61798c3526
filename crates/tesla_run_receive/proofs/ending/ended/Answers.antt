use Rattle.std.proofs.Common.{sym, ap}
use Rattle.std.specs.Option.{option_map}
use Rattle.tesla_front.specs.OutcomeView.{stop_view}
use Rattle.tesla_session.specs.Session.{outcome_by}
use Rattle.tesla_run_receive.proofs.ending.ended.Goals as goal

pub returns-in-None : goal.returns-in-None
returns-in-None c = sym (ap (λ stop. outcome_by (option_map stop_view stop) c.args.lines.bytes) c.in-None.is)
