use Rattle.std.proofs.Common.{◌∙◌}
use Rattle.tesla_sender.proofs.Opened.{all_opened, chains_same}
use Rattle.tesla_run_feed.proofs.chains.open_side_by_side.Goals as goal

pub open_from-requires-clause-same : goal.open_from-requires-clause-same
open_from-requires-clause-same g c = chains_same c.in-Ok.openings.items c.open_all.new.openings.items c.open_all.ensures ∙ c.in-Ok.ensures.same

pub open_from-requires-clause-opened : goal.open_from-requires-clause-opened
open_from-requires-clause-opened g c = all_opened c.in-Ok.openings.items c.open_all.new.openings.items c.open_all.ensures
