use Rattle.std.proofs.Common.{◌∙◌, refl}
use Rattle.tesla_front.specs.Usage.{usage_of}
use Rattle.tesla_front.proofs.Reported.{tells_done, tells_lost}
use Rattle.tesla_front.proofs.console.tell_summary.Goals as goal

pub returns-then-write_all-clause-tells : goal.returns-then-write_all-clause-tells
returns-then-write_all-clause-tells g c =
    tells_done (usage_of c.args.forms.now) c.args.lines.bytes _ _ _ _ _ (c.as_bytes.ensures.value ∙ c.as_str.ensures.value) (c.if-write_all.ensures.all refl) c.if-write_all.ensures.cause c.requires

pub returns-clause-tells : goal.returns-clause-tells
returns-clause-tells g c =
    tells_lost (usage_of c.args.forms.now) c.args.lines.bytes _ _ _ _ _ _ _ _ (c.as_bytes.ensures.value ∙ c.as_str.ensures.value) c.line.ensures c.write_all.ensures.prefix c.write_all-2.ensures.prefix c.requires (c.write_all.ensures.cause.rose c.if-write_all.false) c.write_all-2.ensures.cause.stays
