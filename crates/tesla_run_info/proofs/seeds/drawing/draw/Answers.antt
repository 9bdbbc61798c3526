use Rattle.std.proofs.Common.{◌*◌, ℕ, List, sym, subst}
use Rattle.tesla_front.specs.Files.{ReadsFile}
use Rattle.tesla_front.proofs.SmallTexts.{found_in, read_causes, refused_in, text_causes}
use Rattle.tesla_run_info.specs.seeds.Arguments.{random}
use Rattle.tesla_run_info.specs.seeds.Drawn.{AreDrawn, IsNoDraw}
use Rattle.tesla_run_info.proofs.seeds.Drawn.{draw_memory, drawn_of_prefix, no_draw_of_prefix}
use Rattle.tesla_run_info.proofs.seeds.drawing.draw.Goals as goal

pub returns-in-Ok-clause-found : goal.returns-in-Ok-clause-found
returns-in-Ok-clause-found g c =
    found_in (AreDrawn c.args.count) _ _ _ _ (drawn_of_prefix c.args.count) (subst (λ (read : List ℕ). ReadsFile (32 * c.args.count) ((g.D.Environment.told c.args.desk.now).page random) read) (sym c.as_slice.ensures.value) c.in-Ok.ensures.told) c.seeds_of.ensures.found

pub returns-in-Ok-clause-refused : goal.returns-in-Ok-clause-refused
returns-in-Ok-clause-refused g c =
    refused_in (IsNoDraw c.args.count) _ _ _ _ (no_draw_of_prefix c.args.count) (draw_memory c.args.count) (subst (λ (read : List ℕ). ReadsFile (32 * c.args.count) ((g.D.Environment.told c.args.desk.now).page random) read) (sym c.as_slice.ensures.value) c.in-Ok.ensures.told) c.seeds_of.ensures.refused

pub returns-in-Ok-clause-causes : goal.returns-in-Ok-clause-causes
returns-in-Ok-clause-causes g c =
    text_causes (IsNoDraw c.args.count) _ _ _ _ (draw_memory c.args.count) (read_causes c.in-Ok.bytes _ _ c.in-Ok.ensures.causes) c.seeds_of.ensures.refused
