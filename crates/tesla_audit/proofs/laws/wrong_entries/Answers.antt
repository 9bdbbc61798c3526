use Rattle.tesla_audit.proofs.Wrongs.{first_found, first_only, legal_none, none_legal}
use Rattle.tesla_audit.proofs.laws.wrong_entries.Goals as goal

pub returns-clause-legal : goal.returns-clause-legal
returns-clause-legal c = λ cfg history. (none_legal cfg history, legal_none cfg history)

pub returns-clause-found : goal.returns-clause-found
returns-clause-found c = first_found

pub returns-clause-only : goal.returns-clause-only
returns-clause-only c = first_only
