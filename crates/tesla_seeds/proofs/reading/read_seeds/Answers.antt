use Rattle.tesla_seeds.proofs.Texts.{seeds_answer_found, seeds_answer_only}
use Rattle.tesla_seeds.proofs.reading.read_seeds.Goals as goal

pub returns-clause-found : goal.returns-clause-found
returns-clause-found c = seeds_answer_found _ _ _ c.all.ensures

pub returns-clause-only : goal.returns-clause-only
returns-clause-only c seeds h = seeds_answer_only _ _ _ seeds c.all.ensures h
