use Rattle.std.proofs.Common.{◌∙◌, Err, ap, refl, arith}
use Rattle.hex.specs.Hex.{encode_with}
use Rattle.tesla_seeds.specs.Text.{seeds_text}
use Rattle.tesla_run_stress.specs.Base.{base_seeds, key_of_byte}
use Rattle.tesla_run_stress.specs.declared.base.TheConstants.{SEEDS}
use Rattle.tesla_run_stress.proofs.Setups.{never_unread, seeds_are, seeds_read}
use Rattle.tesla_run_stress.proofs.base.base_seeds.Goals as goal

pub unreachable-requires : goal.unreachable-requires
unfolding seeds_text key_of_byte encode_with
unreachable-requires c =
    never_unread c.read_seeds.result _ _ (c.read_seeds.ensures.only base_seeds (seeds_are SEEDS.now refl (omega arith))) (c.in-Err-At.is ∙ ap (λ e. Err e) c.in-Err-At.field-0-is)

pub returns-in-Ok : goal.returns-in-Ok
unfolding seeds_text key_of_byte encode_with
returns-in-Ok c = seeds_read c.read_seeds.result c.in-Ok.seeds (c.read_seeds.ensures.only base_seeds (seeds_are SEEDS.now refl (omega arith))) c.in-Ok.is
