use Rattle.std.proofs.Common.{sym, ◌∙◌}
use Rattle.tesla_commit.proofs.WordLaws.{not_found, found_at}
use Rattle.tesla_commit.proofs.line_words.cut.Goals as goal

pub returns-in_default : goal.returns-in_default
returns-in_default c = not_found _ _ (sym c.first_offset.ensures ∙ c.in_default.is)

pub returns : goal.returns
returns c = (found_at _ _ _ (sym c.first_offset.ensures ∙ c.in-Some.is)).1
