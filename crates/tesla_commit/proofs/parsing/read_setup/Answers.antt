use Rattle.tesla_commit.proofs.Spelling.{answer_found, answer_only}
use Rattle.tesla_commit.proofs.parsing.read_setup.Goals as goal

pub returns-clause-found : goal.returns-clause-found
returns-clause-found c = answer_found _ _ c.all.ensures

pub returns-clause-only : goal.returns-clause-only
returns-clause-only c setup h = answer_only _ _ setup c.all.ensures h
