use Rattle.std.proofs.Common.{inr}
use Rattle.tesla_front.proofs.table.run_table.Goals as goal

pub returns-in-Ok : goal.returns-in-Ok
returns-in-Ok g c =
    let (written, failed, reports) = c.report_run.ensures.reports (g.D.Environment.told c.args.desk.now) _ c.in-Ok.ensures.opened in
    inr (record {
      opened = _;
      run = c.run-run.result;
      done = _;
      runs = c.run-run.ensures;
      last = c.report_run.ensures.last;
      written = written;
      failed = failed;
      reports = reports;
    })
