use Rattle.std.proofs.Common.{inl, Option, map, refl, string_bytes, subst, sym}
use Rattle.tesla_desk.specs.Live.{Live}
use Rattle.tesla_front.specs.Command.{Command}
use Rattle.tesla_front.specs.OutcomeView.{outcome_view}
use Rattle.tesla_front.specs.Table.{RunsTable}
use Rattle.tesla_front.proofs.Tables.{table_ran}
use Rattle.tesla_receiver.specs.Entries.{Entry}
use Rattle.tesla_turn.specs.Held.{Ended}
use Rattle.tesla_run_receive.specs.record.Record.{recording}
use Rattle.tesla_cli_live.specs.Commands.{record_usage}
use Rattle.tesla_cli_live.proofs.recorded.run_told.Goals as goal

pub run_record-run-requires-clause-any_link : goal.run_record-run-requires-clause-any_link
run_record-run-requires-clause-any_link g c κs within = (c.requires.allowed _ _ c.in-Ok.ensures.opened).any_link

pub run_record-run-requires-clause-asked : goal.run_record-run-requires-clause-asked
run_record-run-requires-clause-asked g c κs within = (c.requires.allowed _ _ c.in-Ok.ensures.opened).asked

pub run_record-run-requires-clause-released : goal.run_record-run-requires-clause-released
run_record-run-requires-clause-released g c κs within = (c.requires.allowed _ _ c.in-Ok.ensures.opened).recorded

pub run_record-run-requires-clause-output : goal.run_record-run-requires-clause-output
run_record-run-requires-clause-output g c κs within = (c.requires.allowed _ _ c.in-Ok.ensures.opened).tail

pub returns-in-Ok : goal.returns-in-Ok
returns-in-Ok g c =
    let words = map string_bytes c.args.words.now in
    let command : Live → Live → Option (Ended Entry) → Command = recording in
    let old = g.D.Environment.told c.args.desk.now in
    let new = g.D.Environment.told c.report_run.new.desk in
    subst (λ (last : Option (Ended Entry)). RunsTable command (Unit {0}) record_usage words old new last (outcome_view c.report_run.result.outcome)) (sym c.report_run.ensures.last)
    (table_ran command (Unit {0}) record_usage words old _ _ new c.run_record-run.result.last _ _ (c.report_run.ensures.reports old _ c.in-Ok.ensures.opened) (record { runs = c.run_record-run.ensures.runs; none = c.run_record-run.ensures.none; others = λ no. absurd (no tt) }))

pub returns-in-Err : goal.returns-in-Err
returns-in-Err g c = rw c.without_history.ensures.outcome (inl (c.in-Err.ensures.refused c.in-Err.fault refl, c.without_history.ensures.last))
