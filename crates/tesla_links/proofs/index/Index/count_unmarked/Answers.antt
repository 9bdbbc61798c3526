use Rattle.std.proofs.Common.{length, arith, ◌∙◌, sym, ap}
use Rattle.std.proofs.lemmas.List.{length-map}
use Rattle.tesla_links.specs.Lists.{list_of}
use Rattle.tesla_links.proofs.Shown.{entry_at, has_entries, has_none}
use Rattle.tesla_links.proofs.index.Index.count_unmarked.Goals as goal

pub count-requires : goal.count-requires
count-requires c = omega (arith, c.self.invariant.1.lists, has_entries c.self.inside c.args.self.now _ c.self.view_is c.self.invariant c.in-Some.group c.args.key c.in-Some.ensures)

pub returns-in-Some : goal.returns-in-Some
returns-in-Some c =
    c.count.ensures
    ∙ sym (ap length (has_entries c.self.inside c.args.self.now _ c.self.view_is c.self.invariant c.in-Some.group c.args.key c.in-Some.ensures).unmarked ∙ length-map (list_of c.self.inside.unmarked c.in-Some.group) (entry_at c.self.inside))

pub returns-in-None : goal.returns-in-None
returns-in-None c = ap length (sym (has_none c.self.inside c.args.self.now _ c.self.view_is c.self.invariant c.args.key c.in-None.ensures).1)
