use Rattle.std.proofs.Common.{List, ℕ, map, string_bytes, subst}
use Rattle.tesla_front.specs.OutcomeView.{outcome_view}
use Rattle.tesla_front.specs.Run.{Runs}
use Rattle.tesla_front.proofs.Tables.{plain_causes, plain_live, plain_run}
use Rattle.tesla_cli.specs.Commands.{command_of}
use Rattle.tesla_cli.proofs.here.run_here.Goals as goal

pub returns-clause-outcome : goal.returns-clause-outcome
returns-clause-outcome g c =
    let words = map string_bytes c.args.words.now in
    let old = g.D.Environment.told c.args.desk.now in
    let new = g.D.Environment.told c.run_table-run.new.desk in
    let runs = plain_run g.D.Environment.told _ (command_of words) _ words _ _ _ (λ opened done run ran. ran.0) c.run_table-run.ensures in (
      _,
      c.status.ensures,
      subst (λ (lines : List ℕ). Runs (command_of words) lines words old new (outcome_view c.run_table-run.result.outcome)) c.forms.ensures runs,
    )

pub returns-clause-causes : goal.returns-clause-causes
returns-clause-causes g c =
    let words = map string_bytes c.args.words.now in
    plain_causes (command_of words) _ words _ _ c.run_table-run.result.outcome _ c.status.ensures
    (plain_run g.D.Environment.told _ (command_of words) _ words _ _ _ (λ opened done run ran. ran.0) c.run_table-run.ensures)

pub returns-clause-live : goal.returns-clause-live
returns-clause-live g c = plain_live g.D.Environment.told _ _ _ _ _ (λ opened done run ran. ran.1) c.run_table-run.ensures
