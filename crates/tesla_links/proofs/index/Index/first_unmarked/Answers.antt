use Rattle.std.proofs.Common.{arith, refl, ◌∙◌, sym, ap}
use Rattle.std.proofs.lemmas.Option.{MatchOption-at_none}
use Rattle.tesla_links.specs.Entries.{first_slot}
use Rattle.tesla_links.specs.Lists.{list_of}
use Rattle.tesla_links.proofs.Grouped.{first_is}
use Rattle.tesla_links.proofs.Shown.{entry_at, has_entries, has_none}
use Rattle.tesla_links.proofs.index.Index.first_unmarked.Goals as goal

pub first-requires : goal.first-requires
first-requires c = omega (arith, c.self.invariant.1, has_entries c.self.inside c.args.self.now _ c.self.view_is c.self.invariant c.in-Some.group c.args.key c.in-Some.ensures)

pub returns : goal.returns
returns c =
    c.first.ensures.value
    ∙ sym (ap first_slot (has_entries c.self.inside c.args.self.now _ c.self.view_is c.self.invariant c.in-Some.group c.args.key c.in-Some.ensures).unmarked ∙ first_is (entry_at c.self.inside) (λ q. refl) (list_of c.self.inside.unmarked c.in-Some.group))

pub returns-in_default : goal.returns-in_default
returns-in_default c = ap first_slot (sym (has_none c.self.inside c.args.self.now _ c.self.view_is c.self.invariant c.args.key (MatchOption-at_none _ _ c.in_default.is c.find.ensures)).1)
