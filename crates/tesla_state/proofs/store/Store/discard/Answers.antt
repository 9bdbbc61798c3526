use Rattle.std.proofs.Common.{ℕ, sym, ap, subst, ◌∙◌, map, List}
use Rattle.std.specs.List.{list_any}
use Rattle.tesla_buffer.specs.Held.{Held}
use Rattle.tesla_state.specs.Stored.{Stored, Placed, placed_in, release_in, rests_at, without, IsStore}
use Rattle.tesla_state.proofs.Stored.{any_shown, without_shown, without_store, rests_apart, rests_stands, releases_kept}
use Rattle.tesla_state.proofs.store.Store.discard.Goals as goal

pub settle-requires : goal.settle-requires
settle-requires c =
    let rests = ap (λ (s : Stored). list_any (rests_at c.args.place.0) s.held) c.self.view_is ∙ c.requires in
    any_shown c.self.inside.chains c.args.place.0 c.self.inside.buffer.held ∙ rests_stands c.args.place.0 (map (placed_in c.self.inside.chains) c.self.inside.buffer.held) rests

pub invariant_of-self : goal.invariant_of-self
invariant_of-self c =
    let rests = ap (λ (s : Stored). list_any (rests_at c.args.place.0) s.held) c.self.view_is ∙ c.requires in
    subst (λ (n : ℕ). IsStore n c.self.inside.queue.capacity c.self.inside.chains c.settle.new.self.held c.self.inside.queue.waiting) (sym c.settle.ensures.capacity)
    (subst (λ (h : List Held). IsStore c.self.inside.buffer.capacity c.self.inside.queue.capacity c.self.inside.chains h c.self.inside.queue.waiting) (sym c.settle.ensures.held)
    (without_store c.self.inside.buffer.capacity c.self.inside.queue.capacity c.self.inside.chains c.args.place.0 c.self.inside.buffer.held c.self.inside.queue.waiting c.self.invariant rests))

pub returns-clause-held : goal.returns-clause-held
returns-clause-held c =
    ap (map (placed_in c.self.inside.chains)) c.settle.ensures.held ∙ without_shown c.self.inside.chains c.args.place.0 c.self.inside.buffer.held
    ∙ ap (λ (s : Stored). without c.args.place.0 s.held) c.self.view_is

pub returns-clause-waiting : goal.returns-clause-waiting
returns-clause-waiting c =
    let rests = ap (λ (s : Stored). list_any (rests_at c.args.place.0) s.held) c.self.view_is ∙ c.requires in
    let shown : List Placed = map (placed_in c.self.inside.chains) c.self.inside.buffer.held in
    ap (λ (h : List Placed). map (release_in h) c.self.inside.queue.waiting) (ap (map (placed_in c.self.inside.chains)) c.settle.ensures.held ∙ without_shown c.self.inside.chains c.args.place.0 c.self.inside.buffer.held)
    ∙ releases_kept c.args.place.0 shown c.self.inside.queue.waiting (rests_apart c.args.place.0 shown c.self.inside.queue.waiting c.self.invariant.stored.distinct rests c.self.invariant.stored.live)
    ∙ ap (λ (s : Stored). s.waiting) c.self.view_is
