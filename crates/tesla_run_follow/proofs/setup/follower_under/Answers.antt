use Rattle.tesla_desk.proofs.Counts.{cause_as}
use Rattle.tesla_run_follow.proofs.setup.follower_under.Goals as goal

pub returns-in-Err-clause-causes : goal.returns-in-Err-clause-causes
returns-in-Err-clause-causes g c =
    let old = (g.D.Environment.told c.args.desk.now).faults in
    let new = (g.D.Environment.told c.distinct_setup_under.new.desk).faults in
    let causes = c.in-Err.ensures.causes in record {
      reads = cause_as old.reads new.reads causes.reads (λ e. cc) (λ e. cc);
      writes = cause_as old.writes new.writes causes.writes (λ e. cc) (λ e. cc);
      openings = cause_as old.openings new.openings causes.openings (λ e. cc) (λ e. cc);
    }
