use Rattle.std.proofs.Common.{Option, map, string_bytes}
use Rattle.tesla_desk.specs.Live.{Live}
use Rattle.tesla_front.specs.Command.{Command}
use Rattle.tesla_front.proofs.Tables.{table_causes}
use Rattle.tesla_cli_live.specs.Commands.{LeavesHistory, live_tool_of, live_tool_usage}
use Rattle.tesla_cli_live.specs.declared.live_tools.ToolLast.{ToolLast}
use Rattle.tesla_cli_live.proofs.live_tools.run_live_tools.Goals as goal

pub returns-clause-outcome : goal.returns-clause-outcome
returns-clause-outcome g c = (_, c.status.ensures, c.run_told-run.ensures)

pub returns-clause-causes : goal.returns-clause-causes
returns-clause-causes g c =
    let words = map string_bytes c.args.words.now in
    let command : Live → Live → Option ToolLast → Command = λ before now last. live_tool_of g.D.Pause.Gate.over before now last words in
    table_causes command (LeavesHistory words) live_tool_usage words _ _ _ c.run_told-run.result.outcome _ c.status.ensures c.run_told-run.ensures
