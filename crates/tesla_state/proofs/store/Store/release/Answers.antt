use Rattle.std.proofs.Common.{ℕ, sym, ap, subst, ◌∙◌, map, List, [], ◌∷◌, ◌++◌, refl}
use Rattle.std.specs.List.{list_any}
use Rattle.tesla_release.specs.declared.queue.Waiting.{Waiting}
use Rattle.tesla_release.specs.Released.{Released}
use Rattle.tesla_buffer.specs.Held.{Held}
use Rattle.tesla_state.specs.Stored.{Stored, Placed, placed_in, release_in, is_proved_by, with_released, IsStore}
use Rattle.tesla_state.proofs.Stored.{any_shown, released_shown, released_store, released_waiting, proved_rests, rests_stands, room_for}
use Rattle.tesla_state.proofs.store.Store.release.Goals as goal

pub settle-requires : goal.settle-requires
settle-requires c =
    let proved = ap (λ (s : Stored). list_any (is_proved_by c.args.proved.now) s.held) c.self.view_is ∙ c.requires in
    let shown : List Placed = map (placed_in c.self.inside.chains) c.self.inside.buffer.held in
    any_shown c.self.inside.chains c.args.proved.now.place.0 c.self.inside.buffer.held ∙ rests_stands c.args.proved.now.place.0 shown (proved_rests c.args.proved.now shown proved)

pub push-requires : goal.push-requires
push-requires c =
    let proved = ap (λ (s : Stored). list_any (is_proved_by c.args.proved.now) s.held) c.self.view_is ∙ c.requires in
    let shown : List Placed = map (placed_in c.self.inside.chains) c.self.inside.buffer.held in
    record { room = room_for c.self.inside.buffer.capacity c.self.inside.queue.capacity c.args.proved.now.place.0 shown c.self.inside.queue.waiting c.self.invariant.stored (proved_rests c.args.proved.now shown proved) }

pub invariant_of-self : goal.invariant_of-self
invariant_of-self c =
    let proved = ap (λ (s : Stored). list_any (is_proved_by c.args.proved.now) s.held) c.self.view_is ∙ c.requires in
    let w : Waiting = record { place = c.args.proved.now.place; chain = c.args.proved.now.release.chain.0 } in
    subst (λ (q : Released). IsStore c.settle.new.self.capacity q.capacity c.self.inside.chains c.settle.new.self.held q.waiting) (sym c.push.ensures)
    (subst (λ (n : ℕ). IsStore n c.self.inside.queue.capacity c.self.inside.chains c.settle.new.self.held (c.self.inside.queue.waiting ++ w ∷ [])) (sym c.settle.ensures.capacity)
    (subst (λ (h : List Held). IsStore c.self.inside.buffer.capacity c.self.inside.queue.capacity c.self.inside.chains h (c.self.inside.queue.waiting ++ w ∷ [])) (sym c.settle.ensures.held)
    (released_store c.self.inside.buffer.capacity c.self.inside.queue.capacity c.self.inside.chains c.args.proved.now w c.self.inside.buffer.held c.self.inside.queue.waiting refl c.self.invariant proved)))

pub returns-clause-held : goal.returns-clause-held
returns-clause-held c =
    ap (map (placed_in c.self.inside.chains)) c.settle.ensures.held ∙ released_shown c.self.inside.chains c.args.proved.now.place.0 c.self.inside.buffer.held
    ∙ ap (λ (s : Stored). map (with_released c.args.proved.now.place.0) s.held) c.self.view_is

pub returns-clause-waiting : goal.returns-clause-waiting
returns-clause-waiting c =
    let proved = ap (λ (s : Stored). list_any (is_proved_by c.args.proved.now) s.held) c.self.view_is ∙ c.requires in
    let shown : List Placed = map (placed_in c.self.inside.chains) c.self.inside.buffer.held in
    let w : Waiting = record { place = c.args.proved.now.place; chain = c.args.proved.now.release.chain.0 } in
    ap (λ (h : List Placed). map (release_in h) c.push.new.self.waiting) (ap (map (placed_in c.self.inside.chains)) c.settle.ensures.held ∙ released_shown c.self.inside.chains c.args.proved.now.place.0 c.self.inside.buffer.held)
    ∙ ap (λ (q : Released). map (release_in (map (with_released c.args.proved.now.place.0) shown)) q.waiting) c.push.ensures
    ∙ released_waiting c.args.proved.now w shown c.self.inside.queue.waiting refl c.self.invariant.stored.distinct proved
    ∙ ap (λ (s : Stored). s.waiting ++ c.args.proved.now.release ∷ []) c.self.view_is
