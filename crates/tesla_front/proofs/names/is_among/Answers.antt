use Rattle.std.proofs.Common.{◌∙◌, sym}
use Rattle.tesla_front.proofs.Among.{none_of, one_of}
use Rattle.tesla_front.proofs.names.is_among.Goals as goal

pub returns-clause-old : goal.returns-clause-old
returns-clause-old c found = one_of c.args.before.now c.args.name.now (sym c.contains.ensures.value ∙ found)

pub returns-clause-new : goal.returns-clause-new
returns-clause-new c other = none_of c.args.before.now c.args.name.now (sym c.contains.ensures.value ∙ other)
