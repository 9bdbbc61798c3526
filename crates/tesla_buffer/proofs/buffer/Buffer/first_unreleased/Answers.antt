use Rattle.std.proofs.Common.{◌≡◌, ◌∙◌, sym, ap}
use Rattle.std.specs.List.{filter}
use Rattle.tesla_buffer.specs.Held.{first_slot, is_unreleased_of}
use Rattle.tesla_buffer.proofs.HeldSlots.{first_live, first_unreleased_there, to_slot}
use Rattle.tesla_buffer.proofs.Shown.{first_unreleased_at}
use Rattle.tesla_buffer.proofs.buffer.Buffer.first_unreleased.Goals.{After-first_unmarked}
use Rattle.tesla_buffer.proofs.buffer.Buffer.first_unreleased.Goals as goal

found : (c : After-first_unmarked) → to_slot c.first_unmarked.result ≡ first_slot (filter (is_unreleased_of c.args.interval) c.args.self.now.held)
found c = first_unreleased_at c.self.inside c.args.self.now _ c.self.view_is c.self.invariant _ _ _ c.from.ensures c.first_unmarked.ensures

pub returns-in_default-clause-place : goal.returns-in_default-clause-place
returns-in_default-clause-place c = ap to_slot (sym c.in_default.is) ∙ found (goal.at.returns-in_default-clause-place c).After-first_unmarked

pub returns-clause-place : goal.returns-clause-place
returns-clause-place c = ap to_slot (sym c.in-Some.is) ∙ found (goal.at.returns-clause-place c).After-first_unmarked

pub returns-clause-live : goal.returns-clause-live
returns-clause-live c = first_live (is_unreleased_of c.args.interval) c.args.self.now.held (record { 0 = c.in-Some.place }) (returns-clause-place c)

pub returns-clause-unreleased : goal.returns-clause-unreleased
returns-clause-unreleased c = first_unreleased_there c.args.interval c.args.self.now.held (record { 0 = c.in-Some.place }) (returns-clause-place c)
