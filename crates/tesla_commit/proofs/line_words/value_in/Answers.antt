use Rattle.tesla_commit.proofs.WordLaws.{value_more}
use Rattle.tesla_commit.proofs.line_words.value_in.Goals as goal

pub returns-in-Some-cut : goal.returns-in-Some-cut
returns-in-Some-cut c = value_more _ _ _ _ _ _ c.in-Some.ensures c.in-Some-cut.ensures
