use Rattle.std.proofs.Common.{sym, ◌∙◌}
use Rattle.tesla_state.proofs.Arrived.{fits_where}
use Rattle.tesla_state.proofs.judging.refused.Goals as goal

pub offer_keys-requires-clause-fits : goal.offer_keys-requires-clause-fits
offer_keys-requires-clause-fits g c = fits_where _ _ _ _ _ (sym c.unfit.ensures ∙ c.in_default.is)
