use Rattle.std.proofs.Common.{◌≡◌, ◌∙◌, sym, get_or, eqb, Some}
use Rattle.std.proofs.lemmas.Bool.{ne_eqb}
use Rattle.std.specs.Prelude.{slice_get}
use Rattle.tesla_base.proofs.Lists.{list_any_got_more}
use Rattle.tesla_links.specs.Lists.{list_of}
use Rattle.tesla_base.proofs.Members.{in_got, next_at}
use Rattle.tesla_links.proofs.key_table.find_in.Goals as goal

pub bounds-keys-slot : goal.bounds-keys-slot
bounds-keys-slot c = c.requires.keyed c.in-Some.slot (in_got (list_of c.args.chains.now c.args.list) c.loop.counter c.in-Some.slot (sym c.loop.invariant.next ∙ c.in-Some.is))

pub returns-then-keys-slot : goal.returns-then-keys-slot
returns-then-keys-slot c = (in_got (list_of c.args.chains.now c.args.list) c.loop.counter c.in-Some.slot (sym c.loop.invariant.next ∙ c.in-Some.is), c.if-keys-slot.true)

pub next-next-requires-clause-slot : goal.next-next-requires-clause-slot
next-next-requires-clause-slot c = in_got (list_of c.args.chains.now c.args.list) c.loop.counter c.in-Some.slot (sym c.loop.invariant.next ∙ c.in-Some.is)

pub loop-preserved : goal.loop-preserved
loop-preserved c =
    let xs = list_of c.args.chains.now c.args.list in
    let got : slice_get xs c.loop.counter ≡ Some c.in-Some.slot = sym c.loop.invariant.next ∙ c.in-Some.is in
    record {
      end = c.loop.invariant.end;
      next = c.next-next.ensures.value ∙ next_at xs c.loop.counter c.in-Some.slot c.next-next.ensures.distinct got;
      none = list_any_got_more (λ p. eqb (get_or c.args.keys.now p 0) c.args.key) xs c.loop.counter c.in-Some.slot got c.loop.invariant.none (ne_eqb _ _ c.if-keys-slot.false);
    }
