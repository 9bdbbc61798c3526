use Rattle.std.proofs.Common.{Option, map, string_bytes}
use Rattle.tesla_desk.specs.Live.{Live}
use Rattle.tesla_front.specs.Command.{Command}
use Rattle.tesla_front.proofs.Tables.{table_causes}
use Rattle.tesla_receiver.specs.Entries.{Entry}
use Rattle.tesla_turn.specs.Held.{Ended}
use Rattle.tesla_cli_live.specs.Commands.{IsReceive, live_of, live_usage}
use Rattle.tesla_cli_live.proofs.live.run_live.Goals as goal

pub returns-clause-outcome : goal.returns-clause-outcome
returns-clause-outcome g c = (_, c.status.ensures, c.run_told-run.ensures)

pub returns-clause-causes : goal.returns-clause-causes
returns-clause-causes g c =
    let words = map string_bytes c.args.words.now in
    let command : Live → Live → Option (Ended Entry) → Command = λ before now last. live_of before now last words in
    table_causes command (IsReceive words) live_usage words _ _ _ c.run_told-run.result.outcome _ c.status.ensures c.run_told-run.ensures
