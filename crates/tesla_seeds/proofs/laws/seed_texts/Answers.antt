use Rattle.std.proofs.Common.{length}
use Rattle.tesla_seeds.specs.Text.{seeds_text}
use Rattle.tesla_seeds.proofs.Texts.{seeds_found, seeds_again, seeds_text_is}
use Rattle.tesla_seeds.proofs.Stops.{seeds_refused, refused_seeds}
use Rattle.tesla_seeds.proofs.laws.seed_texts.Goals as goal

pub returns-clause-found : goal.returns-clause-found
returns-clause-found c text count seeds h = seeds_found count text seeds h

pub returns-clause-only : goal.returns-clause-only
returns-clause-only c text count seeds h = seeds_again count text seeds h

pub returns-clause-refused : goal.returns-clause-refused
returns-clause-refused c = seeds_refused

pub returns-clause-refused_only : goal.returns-clause-refused_only
returns-clause-refused_only c = refused_seeds

pub returns-clause-written : goal.returns-clause-written
returns-clause-written c seeds few keys = seeds_again (length seeds) (seeds_text seeds) seeds (seeds_text_is seeds few keys)
