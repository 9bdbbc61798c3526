use Rattle.std.proofs.Common.{◌∙◌, inl, inr, refl, subst, map, List, ℕ, string_bytes}
use Rattle.tesla_desk.specs.Outside.{ClosesSink}
use Rattle.tesla_front.specs.OutcomeView.{outcome_view}
use Rattle.tesla_front.specs.Printing.{TellsPrinted}
use Rattle.tesla_front.proofs.Printing.{Printeds, printing_opened}
use Rattle.tesla_run_audit.specs.show.Show.{show}
use Rattle.tesla_cli.specs.Commands.{tool_usage}
use Rattle.tesla_cli.proofs.tools.run_printing.Goals as goal

pub returns-in-Ok-clause-runs : goal.returns-in-Ok-clause-runs
returns-in-Ok-clause-runs g c =
    let old = g.D.Environment.told c.args.desk.now in
    let opened = g.D.Environment.told c.open_console.new.desk in
    let done = g.D.Environment.told c.run_show-printed.new.desk in
    let new = g.D.Environment.told c.close_sink.new.self in
    let printed = c.run_show-printed.result in
    let reported = outcome_view c.tell_printed-reported.result in
    let mid = g.D.Out.Sink.written c.run_show-printed.new.console in
    let middle = g.D.Out.Sink.faults c.run_show-printed.new.console in
    let written = g.D.Out.Sink.written c.tell_printed-reported.new.console in
    let failed = g.D.Out.Sink.faults c.tell_printed-reported.new.console in
    let named = c.tell_printed-reported.ensures.name ∙ c.run_show-printed.ensures.name ∙ c.in-Ok.ensures.named in
    let printeds : Printeds tool_usage old opened done new printed reported mid written middle failed = record {
      before = g.D.Out.Sink.written c.in-Ok.console;
      opens = c.in-Ok.ensures.opened;
      tells = subst (λ (lines : List ℕ). TellsPrinted lines printed reported mid written middle failed) c.forms.ensures c.tell_printed-reported.ensures.tells;
      closes = subst (λ (name : List ℕ). ClosesSink name written failed done new) named c.close_sink.ensures.desk;
    } in
    let words = map string_bytes c.args.words.now in
    inr (printing_opened show tool_usage words old opened done new printed reported mid written middle failed printeds c.run_show-printed.ensures.prints)

pub returns-in-Err-clause-runs : goal.returns-in-Err-clause-runs
returns-in-Err-clause-runs g c = inl (c.in-Err.ensures.refused _ refl)

pub returns-in-Err-clause-live : goal.returns-in-Err-clause-live
returns-in-Err-clause-live g c = (c.in-Err.ensures.refused _ refl).live
