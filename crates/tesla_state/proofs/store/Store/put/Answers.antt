use Rattle.std.proofs.Common.{◌≡◌, ℕ, ◌<◌, sym, ap, subst, ◌∙◌, map, List, [], ◌∷◌, ◌++◌, length, false, arith}
use Rattle.tesla_buffer.specs.Held.{Held}
use Rattle.tesla_fitting.specs.Rows.{tag_in}
use Rattle.tesla_state.specs.Stored.{Stored, Placed, placed_in, release_in, IsStore}
use Rattle.tesla_state.proofs.Stored.{pushed_store, releases_pushed, pushed_shown, shown_made, length-shown}
use Rattle.tesla_state.proofs.store.Store.put.Goals as goal

pub invariant_of-self : goal.invariant_of-self
invariant_of-self c =
    let made = c.put_frame-place.ensures.held in
    let chains : length c.args.frame.now.rows ≡ c.self.inside.chains = c.requires.rows ∙ ap (λ (s : Stored). s.chains) (sym c.self.view_is) in
    let long = length-shown c.self.inside.chains c.self.inside.buffer.held in
    let least : length (map (placed_in c.self.inside.chains) c.self.inside.buffer.held) < c.self.inside.buffer.capacity = subst (λ (s : Stored). length s.held < s.capacity) (sym c.self.view_is) c.requires.room in
    let room : length c.self.inside.buffer.held < c.self.inside.buffer.capacity = omega arith in
    subst (λ (n : ℕ). IsStore n c.self.inside.queue.capacity c.self.inside.chains c.put_frame-place.new.self.held c.self.inside.queue.waiting) (sym c.put_frame-place.ensures.capacity)
    (subst (λ (h : List Held). IsStore c.self.inside.buffer.capacity c.self.inside.queue.capacity c.self.inside.chains h c.self.inside.queue.waiting) (sym made.2)
    (pushed_store c.self.inside.buffer.capacity c.self.inside.queue.capacity c.self.inside.chains c.put_frame-place.result.0 made.0 c.self.inside.buffer.held c.self.inside.queue.waiting c.args.order c.args.chains c.args.frame.now
    c.self.invariant room c.put_frame-place.ensures.vacant made.1 c.put_frame-place.ensures.payload c.put_frame-place.ensures.few chains))

pub returns-clause-held : goal.returns-clause-held
returns-clause-held c =
    let made = c.put_frame-place.ensures.held in
    let chains : length c.args.frame.now.rows ≡ c.self.inside.chains = c.requires.rows ∙ ap (λ (s : Stored). s.chains) (sym c.self.view_is) in (
      c.put_frame-place.result.0,
      ap (map (placed_in c.self.inside.chains)) made.2 ∙ pushed_shown c.self.inside.chains c.self.inside.buffer.held (record { place = c.put_frame-place.result.0; item = made.0 })
          ∙ ap (λ h. map (placed_in c.self.inside.chains) c.self.inside.buffer.held ++ record { place = c.put_frame-place.result.0; holding = h } ∷ []) (shown_made c.self.inside.chains c.args.order c.args.chains c.args.frame.now made.0 made.1 chains)
          ∙ ap (λ (s : Stored). s.held ++ record { place = c.put_frame-place.result.0; holding = record { order = c.args.order; name = c.args.frame.now.name; chains = c.args.chains; payload = c.args.frame.now.payload; tags = map tag_in c.args.frame.now.rows; released = false; taken = false } } ∷ []) c.self.view_is,
    )

pub returns-clause-waiting : goal.returns-clause-waiting
returns-clause-waiting c =
    let made = c.put_frame-place.ensures.held in
    ap (λ (h : List Placed). map (release_in h) c.self.inside.queue.waiting) (ap (map (placed_in c.self.inside.chains)) made.2 ∙ pushed_shown c.self.inside.chains c.self.inside.buffer.held (record { place = c.put_frame-place.result.0; item = made.0 }))
    ∙ releases_pushed (map (placed_in c.self.inside.chains) c.self.inside.buffer.held) (placed_in c.self.inside.chains (record { place = c.put_frame-place.result.0; item = made.0 })) c.self.inside.queue.waiting c.self.invariant.stored.live
    ∙ ap (λ (s : Stored). s.waiting) c.self.view_is
