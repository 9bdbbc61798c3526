use Rattle.std.proofs.Common.{◌∙◌, sym, ap, Some}
use Rattle.std.specs.List.{list_any}
use Rattle.std.proofs.lemmas.Option.{MatchOption-at_none}
use Rattle.tesla_buffer.specs.Held.{is_at, is_released_as}
use Rattle.std.specs.Prelude.{◌&&◌}
use Rattle.tesla_buffer.proofs.Stored.{found_named, none_named, seen_held}
use Rattle.tesla_buffer.proofs.HeldSlots.{test_live}
use Rattle.tesla_links.specs.Slots.{has_key}
use Rattle.tesla_buffer.proofs.buffer.Buffer.released_named.Goals as goal

pub returns-in_default-clause-place : goal.returns-in_default-clause-place
returns-in_default-clause-place c =
    let i = c.self.inside in
    let h = c.self.invariant.0 in
    ap (list_any (is_released_as c.args.name)) (sym (seen_held i.capacity i.slots.items i.index c.args.self.now c.self.view_is))
    ∙ none_named i.capacity i.slots.items i.free.items i.index i.released.slots c.args.name h c.key_of_name.ensures.number (ap (λ k. list_any (has_key k) i.released.slots) (sym c.key_of_name.ensures.value) ∙ MatchOption-at_none _ _ c.in_default.is c.find.ensures)

pub returns-clause-place : goal.returns-clause-place
returns-clause-place c =
    let i = c.self.inside in
    let h = c.self.invariant.0 in
    ap (list_any (λ x. is_at c.in-Some.place x && is_released_as c.args.name x)) (sym (seen_held i.capacity i.slots.items i.index c.args.self.now c.self.view_is))
    ∙ found_named i.capacity i.slots.items i.free.items i.index i.released.slots c.args.name h c.key_of_name.ensures.number c.in-Some.place (c.in-Some.ensures ∙ ap (λ k. Some (Some k)) c.key_of_name.ensures.value)

pub returns-clause-live : goal.returns-clause-live
returns-clause-live c =
    let i = c.self.inside in
    let h = c.self.invariant.0 in
    test_live (is_released_as c.args.name) c.in-Some.place c.args.self.now.held
    (ap (list_any (λ x. is_at c.in-Some.place x && is_released_as c.args.name x)) (sym (seen_held i.capacity i.slots.items i.index c.args.self.now c.self.view_is))
    ∙ found_named i.capacity i.slots.items i.free.items i.index i.released.slots c.args.name h c.key_of_name.ensures.number c.in-Some.place (c.in-Some.ensures ∙ ap (λ k. Some (Some k)) c.key_of_name.ensures.value))
