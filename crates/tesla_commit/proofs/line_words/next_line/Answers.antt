use Rattle.tesla_commit.proofs.WordLaws.{next_line_is}
use Rattle.tesla_commit.proofs.line_words.next_line.Goals as goal

pub returns-in-Some : goal.returns-in-Some
returns-in-Some c = next_line_is _ _ _ _ c.in-Some.ensures
