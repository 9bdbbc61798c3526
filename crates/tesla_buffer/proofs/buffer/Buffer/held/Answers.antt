use Rattle.std.proofs.Common.{map, ◌∙◌, sym, ap, subst}
use Rattle.tesla_buffer.specs.Held.{Held}
use Rattle.tesla_buffer.proofs.Stored.{seen_held}
use Rattle.tesla_buffer.proofs.HeldSlots.{same_slots}
use Rattle.tesla_base.specs.Members.{Distinct}
use Rattle.tesla_buffer.proofs.buffer.Buffer.held.Goals as goal

pub returns-clause-distinct : goal.returns-clause-distinct
returns-clause-distinct c =
    let i = c.self.inside in
    let h = c.self.invariant.0 in
    subst (λ ps. Distinct ps) (sym (ap (map (λ (x : Held). x.place)) (sym (seen_held i.capacity i.slots.items i.index c.args.self.now c.self.view_is)) ∙ same_slots i.slots.items i.index.entries)) h.distinct
