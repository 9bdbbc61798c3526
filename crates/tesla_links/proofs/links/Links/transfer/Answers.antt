use Rattle.std.proofs.Common.{ap, ◌∙◌}
use Rattle.std.specs.List.{list_any}
use Rattle.tesla_base.specs.Members.{is_in}
use Rattle.tesla_base.proofs.Members.{nowhere_without}
use Rattle.tesla_links.proofs.links.Links.transfer.Goals as goal

pub append-requires-clause-nowhere : goal.append-requires-clause-nowhere
append-requires-clause-nowhere c = ap (list_any (is_in c.args.slot)) c.remove.ensures.lists ∙ nowhere_without c.args.slot c.args.self.now.lists
