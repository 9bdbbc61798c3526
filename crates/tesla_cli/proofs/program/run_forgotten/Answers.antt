use Rattle.std.proofs.Common.{[], refl}
use Rattle.tesla_desk.proofs.Counts.{cause_none, cause_plain}
use Rattle.tesla_front.proofs.Openings.{opens_none}
use Rattle.tesla_cli.proofs.program.run_forgotten.Goals as goal

pub returns-clause-runs : goal.returns-clause-runs
returns-clause-runs g c =
    let told = g.D.Environment.told c.args._desk.now in
    record {
      form = λ arguments form. record {
        named = tt;
        opened = 0;
        opens = opens_none [] told told refl (λ name. refl) (λ name. refl);
        does = refl;
        counts = record {
          reads = cause_none told.faults.reads told.faults.reads refl (λ e. absurd cc);
          writes = cause_plain told.faults.writes told.faults.writes (cause_none told.faults.writes told.faults.writes refl (λ e. absurd cc));
          openings = cause_none told.faults.openings told.faults.openings refl (λ e. absurd cc);
        };
      };
      usage = λ none. absurd (none tt tt);
    }
