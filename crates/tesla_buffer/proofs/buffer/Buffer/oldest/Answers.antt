use Rattle.std.proofs.Common.{◌≡◌, ◌∙◌, map, sym, ap, subst}
use Rattle.tesla_base.specs.Members.{Distinct}
use Rattle.tesla_buffer.specs.Held.{Held, first_slot}
use Rattle.tesla_buffer.proofs.HeldSlots.{first_is, same_slots, to_slot}
use Rattle.tesla_buffer.proofs.Stored.{seen_held}
use Rattle.tesla_buffer.proofs.Shown.{held_seen}
use Rattle.tesla_buffer.proofs.buffer.Buffer.oldest.Goals.{After-oldest}
use Rattle.tesla_buffer.proofs.buffer.Buffer.oldest.Goals as goal

found : (c : After-oldest) → to_slot c.oldest.result ≡ first_slot c.args.self.now.held
found c =
    let i = c.self.inside in
    ap to_slot c.oldest.ensures ∙ sym (first_is i.slots.items i.index.entries) ∙ ap first_slot (held_seen i c.args.self.now _ c.self.view_is c.self.invariant)

pub returns-in_default-clause-place : goal.returns-in_default-clause-place
returns-in_default-clause-place c = ap to_slot (sym c.in_default.is) ∙ found (goal.at.returns-in_default-clause-place c).After-oldest

pub returns-clause-place : goal.returns-clause-place
returns-clause-place c = ap to_slot (sym c.in-Some.is) ∙ found (goal.at.returns-clause-place c).After-oldest

distinct : (c : After-oldest) → Distinct (map (λ (h : Held). h.place) c.args.self.now.held)
distinct c =
    let i = c.self.inside in
    let h = c.self.invariant.0 in
    subst (λ ps. Distinct ps) (sym (ap (map (λ (x : Held). x.place)) (sym (seen_held i.capacity i.slots.items i.index c.args.self.now c.self.view_is)) ∙ same_slots i.slots.items i.index.entries)) h.distinct

pub returns-in_default-clause-distinct : goal.returns-in_default-clause-distinct
returns-in_default-clause-distinct c = distinct (goal.at.returns-in_default-clause-distinct c).After-oldest

pub returns-clause-distinct : goal.returns-clause-distinct
returns-clause-distinct c = distinct (goal.at.returns-clause-distinct c).After-oldest
