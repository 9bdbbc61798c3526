use Rattle.std.proofs.Common.{◌≡◌, ◌∙◌, sym, ap}
use Rattle.tesla_buffer.specs.Held.{next_slot}
use Rattle.tesla_buffer.proofs.HeldSlots.{next_live, to_slot}
use Rattle.tesla_buffer.proofs.Shown.{held_at_slot, next_at}
use Rattle.tesla_buffer.proofs.buffer.Buffer.next_of.Goals.{After-next}
use Rattle.tesla_buffer.proofs.buffer.Buffer.next_of.Goals as goal

found : (c : After-next) → to_slot c.next.result ≡ next_slot c.args.place.0 c.args.self.now.held
found c = next_at c.self.inside c.args.self.now _ c.self.view_is c.self.invariant _ _ c.next.ensures

pub next-requires : goal.next-requires
next-requires c = (held_at_slot c.self.inside c.args.self.now _ c.self.view_is c.self.invariant c.args.place.0 c.requires).entry

pub returns-in_default-clause-place : goal.returns-in_default-clause-place
returns-in_default-clause-place c = ap to_slot (sym c.in_default.is) ∙ found (goal.at.returns-in_default-clause-place c).After-next

pub returns-clause-place : goal.returns-clause-place
returns-clause-place c = ap to_slot (sym c.in-Some.is) ∙ found (goal.at.returns-clause-place c).After-next

pub returns-clause-live : goal.returns-clause-live
returns-clause-live c = next_live c.args.place.0 c.args.self.now.held (record { 0 = c.in-Some.next }) (returns-clause-place c)
