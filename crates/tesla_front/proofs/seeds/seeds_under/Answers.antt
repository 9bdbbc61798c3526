use Rattle.std.proofs.Common.{ℕ, List, lit<, sym, subst}
use Rattle.tesla_front.specs.Files.{ReadsFile}
use Rattle.tesla_front.specs.Seeds.{IsSeedsText, IsNoSeedsText}
use Rattle.tesla_front.specs.declared.setup.TheConstants.{MOST}
use Rattle.tesla_front.proofs.SmallTexts.{found_in, refused_in, text_causes, read_causes, seeds_of_prefix, no_seeds_of_prefix, seeds_memory}
use Rattle.tesla_front.proofs.seeds.seeds_under.Goals as goal

pub returns-in-Ok-clause-found : goal.returns-in-Ok-clause-found
returns-in-Ok-clause-found g c =
    found_in (IsSeedsText c.args.count) MOST _ _ _ (seeds_of_prefix c.args.count MOST (lit< tt)) (subst (λ (read : List ℕ). ReadsFile MOST ((g.D.Environment.told c.args.desk.now).page c.args.name.now) read) (sym c.as_slice.ensures.value) c.in-Ok.ensures.told) c.seeds_of-judged.ensures.found

pub returns-in-Ok-clause-refused : goal.returns-in-Ok-clause-refused
returns-in-Ok-clause-refused g c =
    refused_in (IsNoSeedsText c.args.count) MOST _ _ _ (no_seeds_of_prefix c.args.count MOST (lit< tt)) (seeds_memory c.args.count) (subst (λ (read : List ℕ). ReadsFile MOST ((g.D.Environment.told c.args.desk.now).page c.args.name.now) read) (sym c.as_slice.ensures.value) c.in-Ok.ensures.told) c.seeds_of-judged.ensures.refused

pub returns-in-Ok-clause-causes : goal.returns-in-Ok-clause-causes
returns-in-Ok-clause-causes g c =
    text_causes (IsNoSeedsText c.args.count) _ _ _ _ (seeds_memory c.args.count) (read_causes c.in-Ok.text _ _ c.in-Ok.ensures.causes) c.seeds_of-judged.ensures.refused
