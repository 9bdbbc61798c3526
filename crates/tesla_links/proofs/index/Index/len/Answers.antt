use Rattle.std.proofs.Common.{◌∙◌, sym}
use Rattle.tesla_links.proofs.Grouped.{seen_length}
use Rattle.tesla_links.proofs.index.Index.len.Goals as goal

pub returns : goal.returns
returns c = let i = c.self.inside in c.count.ensures ∙ sym (seen_length i.capacity i.order i.unmarked i.groups.items i.keys.slots c.args.self.now c.self.view_is)
