use Rattle.tesla_commit.specs.SetupText.{setup_text}
use Rattle.tesla_commit.proofs.Spelled.{judged_found}
use Rattle.tesla_commit.proofs.Spelling.{judged_again}
use Rattle.tesla_commit.proofs.Lengths.{text_is}
use Rattle.tesla_commit.proofs.Refusals.{judged_refused}
use Rattle.tesla_commit.proofs.Stopped.{refused_judged}
use Rattle.tesla_commit.proofs.laws.setups.Goals as goal

pub returns-clause-found : goal.returns-clause-found
returns-clause-found c = judged_found

pub returns-clause-only : goal.returns-clause-only
returns-clause-only c = judged_again

pub returns-clause-written : goal.returns-clause-written
returns-clause-written c setup limits keys = judged_again (setup_text setup) setup (text_is setup limits keys)

pub returns-clause-refused : goal.returns-clause-refused
returns-clause-refused c = judged_refused

pub returns-clause-refused_only : goal.returns-clause-refused_only
returns-clause-refused_only c = refused_judged
