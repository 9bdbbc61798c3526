use Rattle.std.proofs.Common.{length, ◌∙◌, sym, ap}
use Rattle.std.specs.List.{filter}
use Rattle.std.proofs.lemmas.List.{length-map}
use Rattle.tesla_buffer.specs.Held.{is_of}
use Rattle.tesla_buffer.specs.Stored.{held_at}
use Rattle.tesla_buffer.proofs.Stored.{seen_held}
use Rattle.tesla_buffer.proofs.HeldSlots.{of_interval}
use Rattle.tesla_links.specs.Entries.{is_under}
use Rattle.tesla_buffer.proofs.buffer.Buffer.held_in.Goals as goal

pub returns : goal.returns
returns c =
    let i = c.self.inside in
    let h = c.self.invariant.0 in
    c.count.ensures ∙ ap (λ k. length (filter (is_under k) i.index.entries)) c.from.ensures
    ∙ sym (ap (λ hs. length (filter (is_of c.args.interval) hs)) (sym (seen_held i.capacity i.slots.items i.index c.args.self.now c.self.view_is)) ∙ ap length (of_interval i.slots.items c.args.interval i.index.entries h.keyed)
    ∙ length-map (filter (is_under c.args.interval) i.index.entries) (held_at i.slots.items))
