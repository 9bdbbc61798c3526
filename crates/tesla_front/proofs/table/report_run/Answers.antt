use Rattle.std.proofs.Common.{◌∙◌, subst, List, ℕ}
use Rattle.tesla_desk.specs.Outside.{ClosesSink}
use Rattle.tesla_front.proofs.table.report_run.Goals as goal

pub returns-clause-reports : goal.returns-clause-reports
returns-clause-reports g c old opened opens =
    let written = g.D.Out.Sink.written c.tell-reported.new.console in
    let failed = g.D.Out.Sink.faults c.tell-reported.new.console in (
      written,
      failed,
      record {
        before = g.D.Out.Sink.written c.args.console;
        opens = opens;
        tells = c.tell-reported.ensures.tells;
        closes = subst (λ (name : List ℕ). ClosesSink name written failed (g.D.Environment.told c.args.desk.now) (g.D.Environment.told c.close_sink.new.self)) (c.tell-reported.ensures.name ∙ c.requires.named) c.close_sink.ensures.desk;
      },
    )
