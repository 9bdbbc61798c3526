use Rattle.tesla_links.proofs.Linked.{at_view, first_read}
use Rattle.tesla_links.proofs.links.Links.first.Goals as goal

pub returns-then-first-head-clause-value : goal.returns-then-first-head-clause-value
returns-then-first-head-clause-value c =
    (first_read c.self.inside c.args.self.now c.args.list _ (at_view c.self.inside c.args.self.now _ c.self.view_is c.self.invariant) c.requires c.index-first.ensures).0 c.if-first-head.true

pub returns-clause-value : goal.returns-clause-value
returns-clause-value c =
    (first_read c.self.inside c.args.self.now c.args.list _ (at_view c.self.inside c.args.self.now _ c.self.view_is c.self.invariant) c.requires c.index-first.ensures).1 c.if-first-head.false
