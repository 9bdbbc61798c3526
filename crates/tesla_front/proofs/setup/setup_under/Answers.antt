use Rattle.std.proofs.Common.{ℕ, List, lit<, sym, subst}
use Rattle.tesla_front.specs.Files.{ReadsFile}
use Rattle.tesla_front.specs.Setup.{IsSetupText, IsNoSetupText}
use Rattle.tesla_front.specs.declared.setup.TheConstants.{MOST}
use Rattle.tesla_front.proofs.SmallTexts.{found_in, refused_in, text_causes, read_causes, setup_of_prefix, no_setup_of_prefix, setup_memory}
use Rattle.tesla_front.proofs.setup.setup_under.Goals as goal

pub returns-in-Ok-clause-found : goal.returns-in-Ok-clause-found
returns-in-Ok-clause-found g c =
    found_in IsSetupText MOST _ _ _ (setup_of_prefix MOST (lit< tt)) (subst (λ (read : List ℕ). ReadsFile MOST ((g.D.Environment.told c.args.desk.now).page c.args.name.now) read) (sym c.as_slice.ensures.value) c.in-Ok.ensures.told) c.setup_of.ensures.found

pub returns-in-Ok-clause-refused : goal.returns-in-Ok-clause-refused
returns-in-Ok-clause-refused g c =
    refused_in IsNoSetupText MOST _ _ _ (no_setup_of_prefix MOST (lit< tt)) setup_memory (subst (λ (read : List ℕ). ReadsFile MOST ((g.D.Environment.told c.args.desk.now).page c.args.name.now) read) (sym c.as_slice.ensures.value) c.in-Ok.ensures.told) c.setup_of.ensures.refused

pub returns-in-Ok-clause-causes : goal.returns-in-Ok-clause-causes
returns-in-Ok-clause-causes g c =
    text_causes IsNoSetupText _ _ _ _ setup_memory (read_causes c.in-Ok.text _ _ c.in-Ok.ensures.causes) c.setup_of.ensures.refused
