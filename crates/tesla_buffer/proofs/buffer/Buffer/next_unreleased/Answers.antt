use Rattle.std.proofs.Common.{◌≡◌, ◌∙◌, sym, ap}
use Rattle.std.specs.List.{list_any}
use Rattle.tesla_buffer.specs.Held.{is_unreleased_at, next_unreleased}
use Rattle.tesla_buffer.proofs.HeldSlots.{next_unreleased_live, next_unreleased_there, to_slot, unreleased_there}
use Rattle.tesla_buffer.proofs.Shown.{held_seen, next_unreleased_at}
use Rattle.tesla_buffer.proofs.buffer.Buffer.next_unreleased.Goals.{After-next_unmarked}
use Rattle.tesla_buffer.proofs.buffer.Buffer.next_unreleased.Goals as goal

found : (c : After-next_unmarked) → to_slot c.next_unmarked.result ≡ next_unreleased c.args.place.0 c.args.self.now.held
found c = next_unreleased_at c.self.inside c.args.self.now _ c.self.view_is c.self.invariant _ _ c.next_unmarked.ensures

pub next_unmarked-requires : goal.next_unmarked-requires
next_unmarked-requires c =
    sym (unreleased_there c.self.inside.slots.items c.args.place.0 c.self.inside.index.entries c.self.invariant.0.keyed) ∙ ap (list_any (is_unreleased_at c.args.place.0)) (held_seen c.self.inside c.args.self.now _ c.self.view_is c.self.invariant) ∙ c.requires

pub returns-in_default-clause-place : goal.returns-in_default-clause-place
returns-in_default-clause-place c = ap to_slot (sym c.in_default.is) ∙ found (goal.at.returns-in_default-clause-place c).After-next_unmarked

pub returns-clause-place : goal.returns-clause-place
returns-clause-place c = ap to_slot (sym c.in-Some.is) ∙ found (goal.at.returns-clause-place c).After-next_unmarked

pub returns-clause-live : goal.returns-clause-live
returns-clause-live c = next_unreleased_live c.args.place.0 c.args.self.now.held (record { 0 = c.in-Some.behind }) (returns-clause-place c)

pub returns-clause-unreleased : goal.returns-clause-unreleased
returns-clause-unreleased c = next_unreleased_there c.args.place.0 c.args.self.now.held (record { 0 = c.in-Some.behind }) (returns-clause-place c)
