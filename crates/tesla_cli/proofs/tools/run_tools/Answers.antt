use Rattle.std.proofs.Common.{Bool, true, false, ℕ, List, map, string_bytes, subst, sym}
use Rattle.tesla_desk.specs.Outside.{Told}
use Rattle.tesla_front.specs.OutcomeView.{OutcomeView, HasOwnStatus, outcome_view, status_of}
use Rattle.tesla_front.specs.Run.{HasStatusCauses}
use Rattle.tesla_front.proofs.Statuses.{own_status, printing_status_causes, status_causes}
use Rattle.tesla_run_audit.specs.show.Show.{show}
use Rattle.tesla_cli.specs.Commands.{names_show, runs_where, tool_of, tool_usage}
use Rattle.tesla_cli.proofs.tools.run_tools.Goals as goal

-- the status is that of a fault only where its count rose, whichever tool was run
causes_where : (shows : Bool) (words : List (List ℕ)) (old new : Told) (reported : OutcomeView) → HasOwnStatus reported → runs_where shows words old new reported
    → HasStatusCauses (status_of reported) old.faults new.faults
causes_where true words old new reported own runs = printing_status_causes show tool_usage words old new reported own runs
causes_where false words old new reported own runs = status_causes (tool_of old.live new.live words) tool_usage words old new reported own runs

pub returns-clause-causes : goal.returns-clause-causes
returns-clause-causes g c =
    let words = map string_bytes c.args.words.now in
    let old = g.D.Environment.told c.args.desk.now in
    let new = g.D.Environment.told c.run_reported.new.desk in
    let outcome = c.run_reported.result in
    subst (λ (status : ℕ). HasStatusCauses status old.faults new.faults) (sym c.status.ensures)
    (causes_where (names_show words) words old new (outcome_view outcome) (own_status outcome) c.run_reported.ensures.runs)
