use Rattle.tesla_run_audit.proofs.Exact.{legal_found, legal_only, refuted_found, refuted_only}
use Rattle.tesla_run_audit.proofs.laws.exact.Goals as goal

pub returns-clause-legal : goal.returns-clause-legal
returns-clause-legal c = legal_only

pub returns-clause-legal_only : goal.returns-clause-legal_only
returns-clause-legal_only c = legal_found

pub returns-clause-refuted : goal.returns-clause-refuted
returns-clause-refuted c = refuted_only

pub returns-clause-refuted_only : goal.returns-clause-refuted_only
returns-clause-refuted_only c = refuted_found
