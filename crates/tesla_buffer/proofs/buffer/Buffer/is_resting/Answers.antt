use Rattle.std.proofs.Common.{true, arith, ◌∙◌, sym, ap, Some}
use Rattle.std.specs.Prelude.{option_map}
use Rattle.std.specs.List.{find}
use Rattle.std.proofs.lemmas.List.{get_or_read}
use Rattle.tesla_buffer.specs.Held.{Held, is_at, is_resting}
use Rattle.tesla_buffer.proofs.HeldSlots.{find_live}
use Rattle.tesla_buffer.proofs.Shown.{held_at_slot, held_seen}
use Rattle.tesla_buffer.proofs.buffer.Buffer.is_resting.Goals as goal

pub index-requires : goal.index-requires
index-requires c = omega (arith, held_at_slot c.self.inside c.args.self.now _ c.self.view_is c.self.invariant c.args.place.0 c.requires)

pub returns : goal.returns
returns c =
    let i = c.self.inside in
    let at = held_at_slot c.self.inside c.args.self.now _ c.self.view_is c.self.invariant c.args.place.0 c.requires in
    let read = get_or_read i.resting.items c.args.place.0 c.index.result.now (omega (arith, at)) c.index.ensures true in
    ap (λ hs. option_map (λ (x : Held). is_resting x.item) (find (is_at c.args.place.0) hs)) (sym (held_seen c.self.inside c.args.self.now _ c.self.view_is c.self.invariant))
    ∙ ap (option_map (λ (x : Held). is_resting x.item)) (find_live i.slots.items c.args.place.0 i.index.entries at.live)
    ∙ ap Some (sym (read ∙ at.beside.tells c.args.place.0 at.within))
