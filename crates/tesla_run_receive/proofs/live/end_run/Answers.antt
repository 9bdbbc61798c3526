use Rattle.std.proofs.Common.{not}
use Rattle.std.specs.Option.{option_map}
use Rattle.tesla_front.specs.OutcomeView.{stop_view}
use Rattle.tesla_turn.specs.History.{entries}
use Rattle.tesla_run_receive.proofs.Performed.{outcome_as}
use Rattle.tesla_run_receive.proofs.live.end_run.Goals as goal

pub returns-clause-ends : goal.returns-clause-ends
returns-clause-ends g c extra begun =
    let history = entries c.args.ran.last.history in
    let stood = c.requires.stood.stood in (
      not c.end-written.result,
      c.end-written.ensures extra history begun stood,
      λ read write spent stop. outcome_as _ (option_map stop_view c.stop_with.result) _ c.lines-lines.result.bytes _ c.ended.ensures (c.stop_with.ensures read write spent stop) (c.lines-lines.ensures history stood),
    )
