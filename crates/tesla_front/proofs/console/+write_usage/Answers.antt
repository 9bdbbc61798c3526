use Rattle.std.proofs.Common.{refl}
use Rattle.tesla_front.proofs.Reported.{usage_stops, usage_prefix, usage_whole}
use Rattle.tesla_front.proofs.console.+write_usage.Goals as goal

pub returns-then-not-write_form-clause-prefix : goal.returns-then-not-write_form-clause-prefix
returns-then-not-write_form-clause-prefix g t c = usage_stops c.args.forms.now _ _ _ c.in-len1-up.len_at_least c.write_form.ensures.prefix

pub returns-else-not-write_form-clause-all : goal.returns-else-not-write_form-clause-all
returns-else-not-write_form-clause-all g t c whole =
    usage_whole c.args.forms.now _ _ _ _ c.in-len1-up.len_at_least (c.if-not-write_form.ensures.all refl) (c.write_usage.ensures.all whole)

pub returns-else-not-write_form-clause-prefix : goal.returns-else-not-write_form-clause-prefix
returns-else-not-write_form-clause-prefix g t c =
    usage_prefix c.args.forms.now _ _ _ _ c.in-len1-up.len_at_least (c.if-not-write_form.ensures.all refl) c.write_usage.ensures.prefix
