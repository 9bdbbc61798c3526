use Rattle.std.proofs.Common.{[]}
use Rattle.tesla_front.proofs.Tables.{plain_live, plain_run}
use Rattle.tesla_cli.specs.program.Words.{forgotten}
use Rattle.tesla_cli.proofs.program.tell_no_memory.Goals as goal

pub returns-clause-lacks : goal.returns-clause-lacks
returns-clause-lacks g c = record {
  status_is = c.status.ensures;
  told = (_, plain_run g.D.Environment.told _ forgotten _ [] _ _ _ (λ opened done run ran. ran.0) c.run_table.ensures);
}

pub returns-clause-live : goal.returns-clause-live
returns-clause-live g c = plain_live g.D.Environment.told _ _ _ _ _ (λ opened done run ran. ran.1) c.run_table.ensures
