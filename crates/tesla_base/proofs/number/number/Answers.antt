use Rattle.tesla_base.proofs.Numbers.{all_digits}
use Rattle.tesla_base.proofs.number.number.Goals as goal

pub value-requires : goal.value-requires
value-requires c = all_digits c.args.text.now c.in_default.ensures
