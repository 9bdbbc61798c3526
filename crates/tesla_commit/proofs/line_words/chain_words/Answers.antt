use Rattle.tesla_commit.proofs.WordLaws.{chain_more}
use Rattle.tesla_commit.proofs.line_words.chain_words.Goals as goal

pub returns-in-Some-cut-3 : goal.returns-in-Some-cut-3
returns-in-Some-cut-3 c = chain_more _ _ _ _ _ _ _ _ _ c.in-Some.ensures c.in-Some-cut.ensures c.in-Some-cut-2.ensures c.in-Some-cut-3.ensures
