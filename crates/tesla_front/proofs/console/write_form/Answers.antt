use Rattle.std.proofs.Common.{codes, refl}
use Rattle.tesla_front.proofs.Reported.{second_prefix, third_prefix}
use Rattle.tesla_front.proofs.console.write_form.Goals as goal

pub returns-then-not-write_all-2-clause-prefix : goal.returns-then-not-write_all-2-clause-prefix
returns-then-not-write_all-2-clause-prefix g c =
    second_prefix _ _ _ (codes "usage: ") c.args.form.now.words.now (codes "\n") _ (c.if-not-write_all.ensures.all refl) c.as_bytes.ensures.value c.write_all-2.ensures.prefix

pub returns-clause-prefix : goal.returns-clause-prefix
returns-clause-prefix g c =
    third_prefix _ _ _ _ (codes "usage: ") c.args.form.now.words.now (codes "\n") _ (c.if-not-write_all.ensures.all refl) c.as_bytes.ensures.value (c.if-not-write_all-2.ensures.all refl) c.write_all-3.ensures.prefix
