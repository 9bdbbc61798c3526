use Rattle.std.proofs.Common.{List, ℕ, map, string_bytes, subst}
use Rattle.tesla_desk.specs.Live.{Live}
use Rattle.tesla_front.specs.Command.{Command}
use Rattle.tesla_front.specs.OutcomeView.{outcome_view}
use Rattle.tesla_front.specs.Run.{Runs}
use Rattle.tesla_cli.specs.Commands.{tool_of}
use Rattle.tesla_front.proofs.Tables.{live_run}
use Rattle.tesla_cli.proofs.Clocks.{kept_run}
use Rattle.tesla_cli.proofs.tools.run_silently.Goals as goal

pub returns-clause-runs : goal.returns-clause-runs
returns-clause-runs g c =
    let words = map string_bytes c.args.words.now in
    let old = g.D.Environment.told c.args.desk.now in
    let new = g.D.Environment.told c.run_table-run.new.desk in
    let command : Live → Live → Command = λ before now. tool_of before now words in
    subst (λ (lines : List ℕ). Runs (tool_of old.live new.live words) lines words old new (outcome_view c.run_table-run.result.outcome)) c.forms.ensures
    (live_run g.D.Environment.told _ command _ words _ _ _ (λ opened done run ran. ran.0) c.run_table-run.ensures)

pub returns-clause-live : goal.returns-clause-live
returns-clause-live g c = kept_run g.D.Environment.told _ _ (map string_bytes c.args.words.now) _ _ _ (λ opened done run ran. ran.1) c.run_table-run.ensures
