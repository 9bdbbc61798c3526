use Rattle.std.proofs.Common.{inl, Option, map, refl, string_bytes, subst, sym}
use Rattle.tesla_desk.specs.Live.{Live}
use Rattle.tesla_front.specs.Command.{Command}
use Rattle.tesla_front.specs.OutcomeView.{outcome_view}
use Rattle.tesla_front.specs.Table.{RunsTable}
use Rattle.tesla_front.proofs.Tables.{table_ran}
use Rattle.tesla_receiver.specs.Entries.{Entry}
use Rattle.tesla_turn.specs.Held.{Ended}
use Rattle.tesla_cli_live.specs.Commands.{IsReceive, live_of, live_usage}
use Rattle.tesla_cli_live.proofs.live.run_told.Goals as goal

pub run_words-run-requires-after_bounds : goal.run_words-run-requires-after_bounds
run_words-run-requires-after_bounds g c κs within = c.requires.allowed _ _ c.in-Ok.ensures.opened

pub returns-in-Ok : goal.returns-in-Ok
returns-in-Ok g c =
    let words = map string_bytes c.args.words.now in
    let command : Live → Live → Option (Ended Entry) → Command = λ before now last. live_of before now last words in
    let old = g.D.Environment.told c.args.desk.now in
    let new = g.D.Environment.told c.report_run.new.desk in
    subst (λ (last : Option (Ended Entry)). RunsTable command (IsReceive words) live_usage words old new last (outcome_view c.report_run.result.outcome)) (sym c.report_run.ensures.last)
    (table_ran command (IsReceive words) live_usage words old _ _ new c.run_words-run.result.last _ _ (c.report_run.ensures.reports old _ c.in-Ok.ensures.opened) (record { runs = c.run_words-run.ensures.runs; none = c.run_words-run.ensures.none; others = c.run_words-run.ensures.others }))

pub returns-in-Err : goal.returns-in-Err
returns-in-Err g c = rw c.without_history.ensures.outcome (inl (c.in-Err.ensures.refused c.in-Err.fault refl, c.without_history.ensures.last))
