use Rattle.std.proofs.Common.{refl, ◌∙◌, sym, ap}
use Rattle.tesla_links.specs.Entries.{first_slot}
use Rattle.tesla_links.specs.Lists.{list_of}
use Rattle.tesla_links.proofs.Grouped.{first_is}
use Rattle.tesla_links.proofs.Shown.{entry_at, shown}
use Rattle.tesla_links.proofs.index.Index.oldest.Goals as goal

pub returns : goal.returns
returns c =
    let f = c.self.inside in
    c.first.ensures.value ∙ sym (ap first_slot (shown f c.args.self.now _ c.self.view_is c.self.invariant) ∙ first_is (entry_at f) (λ q. refl) (list_of f.order 0))
