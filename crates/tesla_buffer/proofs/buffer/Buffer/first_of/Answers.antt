use Rattle.std.proofs.Common.{◌≡◌, ◌∙◌, sym, ap}
use Rattle.std.specs.List.{filter}
use Rattle.tesla_buffer.specs.Held.{first_slot, is_of}
use Rattle.tesla_buffer.proofs.HeldSlots.{first_live, to_slot}
use Rattle.tesla_buffer.proofs.Shown.{first_at}
use Rattle.tesla_buffer.proofs.buffer.Buffer.first_of.Goals.{After-first}
use Rattle.tesla_buffer.proofs.buffer.Buffer.first_of.Goals as goal

found : (c : After-first) → to_slot c.first.result ≡ first_slot (filter (is_of c.args.interval) c.args.self.now.held)
found c = first_at c.self.inside c.args.self.now _ c.self.view_is c.self.invariant _ _ _ c.from.ensures c.first.ensures

pub returns-in_default-clause-place : goal.returns-in_default-clause-place
returns-in_default-clause-place c = ap to_slot (sym c.in_default.is) ∙ found (goal.at.returns-in_default-clause-place c).After-first

pub returns-clause-place : goal.returns-clause-place
returns-clause-place c = ap to_slot (sym c.in-Some.is) ∙ found (goal.at.returns-clause-place c).After-first

pub returns-clause-live : goal.returns-clause-live
returns-clause-live c = first_live (is_of c.args.interval) c.args.self.now.held (record { 0 = c.in-Some.place }) (returns-clause-place c)
