use Rattle.std.proofs.Common.{Bool, true, ◌==◌, ◌≡◌, ℕ, ◌+◌, ◌-◌, ◌^◌, ◌≤◌, sym, ap, subst, ◌∙◌, map, List, ◌∷◌, drop, length, take, flat_map}
use Rattle.std.specs.Prelude.{find, option_map, Some, min}
use Rattle.std.specs.List.{list_all}
use Rattle.tesla_buffer.specs.Held.{Held, is_at, is_live, settled}
use Rattle.tesla_buffer.specs.declared.item.Fate.{Fate}
use Rattle.tesla_base.specs.Members.{Distinct}
use Rattle.tesla_release.specs.Released.{given_after}
use Rattle.tesla_release.specs.declared.queue.Waiting.{Waiting}
use Rattle.tesla_base.specs.declared.release.Head.{Head}
use Rattle.tesla_fitting.specs.Config.{chains}
use Rattle.tesla_walks.specs.ItemShown.{holding_in}
use Rattle.tesla_state.specs.Steps.{is_passed}
use Rattle.tesla_state.specs.Stored.{Stored, Placed, placed_in, release_in, release_by, stands_at, order_of, after_take, IsStore, IsItemOf}
use Rattle.tesla_state.proofs.Stored.{found_shown, found_passes}
use Rattle.tesla_state.proofs.Taken.{live_slot, first_waiting, taken_store, fate_if, settled_taken, settled_shown, releases_taken, taken_by_order, found_by_order}
use Rattle.tesla_state.proofs.store.Store.take.Goals.{In-Some}
use Rattle.tesla_state.proofs.store.Store.take.Goals as goal

abbrev head_made : ℕ → ℕ → ℕ → ℕ → ℕ → Head
head_made position interval number chain length = record { position = position; interval = interval; number = number; chain = chain; length = length }

-- the packet that is first in the queue, in front of the others
queued : (c : In-Some) → IsStore c.self.inside.buffer.capacity c.self.inside.queue.capacity c.self.inside.chains c.self.inside.buffer.held (c.in-Some.waiting ∷ drop 1 c.self.inside.queue.waiting)
queued c =
    let queue : c.self.inside.queue.waiting ≡ c.in-Some.waiting ∷ drop 1 c.self.inside.queue.waiting = first_waiting c.self.inside.queue.waiting c.in-Some.waiting (sym c.in-Some.is ∙ c.pop.ensures.value) in
    subst (λ (ws : List Waiting). IsStore c.self.inside.buffer.capacity c.self.inside.queue.capacity c.self.inside.chains c.self.inside.buffer.held ws) queue c.self.invariant

-- and it is held
there : (c : In-Some) → is_live c.in-Some.waiting.place.0 c.self.inside.buffer.held ≡ true
there c = live_slot c.self.inside.buffer.capacity c.self.inside.queue.capacity c.self.inside.chains c.self.inside.buffer.held c.in-Some.waiting (drop 1 c.self.inside.queue.waiting) (queued c)

pub item-item-requires : goal.item-item-requires
item-item-requires c = there (goal.at.item-item-requires c).In-Some

pub give-head-requires : goal.give-head-requires
give-head-requires c =
    (found_passes (IsItemOf c.self.inside.chains) (is_at c.in-Some.waiting.place.0) c.self.inside.buffer.held (record { place = c.in-Some.waiting.place.0; item = c.item-item.result.now }) c.self.invariant.items c.item-item.ensures.item).payload

pub settle-requires : goal.settle-requires
settle-requires c = there (goal.at.settle-requires c).In-Some

pub invariant_of-self-2 : goal.invariant_of-self-2
invariant_of-self-2 c =
    let b : Bool = list_all (is_passed c.args.tips.now c.item-item.result.now.name.interval) (chains c.args.config.now) in
    let held : c.settle.new.self.held ≡ settled c.in-Some.waiting.place.0 (fate_if b) c.self.inside.buffer.held = c.settle.ensures.held ∙ ap (λ (f : Fate). settled c.in-Some.waiting.place.0 f c.self.inside.buffer.held) c.fate_of-fate.ensures in
    subst (λ (n : ℕ). IsStore n c.pop.new.self.capacity c.self.inside.chains c.settle.new.self.held c.pop.new.self.waiting) (sym c.settle.ensures.capacity)
    (subst (λ (n : ℕ). IsStore c.self.inside.buffer.capacity n c.self.inside.chains c.settle.new.self.held c.pop.new.self.waiting) (sym c.pop.ensures.capacity)
    (subst (λ (ws : List Waiting). IsStore c.self.inside.buffer.capacity c.self.inside.queue.capacity c.self.inside.chains c.settle.new.self.held ws) (sym c.pop.ensures.waiting)
    (subst (λ (h : List Held). IsStore c.self.inside.buffer.capacity c.self.inside.queue.capacity c.self.inside.chains h (drop 1 c.self.inside.queue.waiting)) (sym held)
    (taken_store c.self.inside.buffer.capacity c.self.inside.queue.capacity c.self.inside.chains b c.self.inside.buffer.held c.in-Some.waiting (drop 1 c.self.inside.queue.waiting)
    (queued (goal.at.invariant_of-self-2 c).In-Some)))))

pub returns-clause-given : goal.returns-clause-given
returns-clause-given c =
    let w : Waiting = c.in-Some.waiting in
    let ws : List Waiting = drop 1 c.self.inside.queue.waiting in
    let n : ℕ = c.self.inside.chains in
    let shown : List Placed = map (placed_in n) c.self.inside.buffer.held in
    let x : Placed = record { place = w.place.0; holding = holding_in n c.item-item.result.now } in
    let g : Placed → Bool = λ (y : Placed). list_all (is_passed c.args.tips.now y.holding.name.interval) (chains c.args.config.now) in
    let view : shown ≡ c.args.self.now.held = ap (λ (s : Stored). s.held) c.self.view_is in
    let queue : c.self.inside.queue.waiting ≡ w ∷ ws = first_waiting c.self.inside.queue.waiting w (sym c.in-Some.is ∙ c.pop.ensures.value) in
    let before : IsStore c.self.inside.buffer.capacity c.self.inside.queue.capacity n c.self.inside.buffer.held (w ∷ ws) = subst (λ (q : List Waiting). IsStore c.self.inside.buffer.capacity c.self.inside.queue.capacity n c.self.inside.buffer.held q) queue c.self.invariant in
    let there : find (stands_at w.place.0) shown ≡ Some x = found_shown n w.place.0 c.self.inside.buffer.held ∙ ap (option_map (placed_in n)) c.item-item.ensures.item in
    let orders : Distinct (map order_of shown) = subst (λ (h : List Placed). Distinct (map order_of h)) (sym view) c.requires.orders in
    let held : map (placed_in n) c.settle.new.self.held ≡ settled_taken (g x) w.place.0 shown =
    ap (map (placed_in n)) (c.settle.ensures.held ∙ ap (λ (f : Fate). settled w.place.0 f c.self.inside.buffer.held) c.fate_of-fate.ensures) ∙ settled_shown n w.place.0 (g x) c.self.inside.buffer.held in
    record {
      packet = x;
      found = ap (find (λ (y : Placed). y.holding.order == x.holding.order)) (sym view) ∙ found_by_order w.place.0 x shown orders there;
      chain = w.chain;
      first = ap (λ (s : Stored). s.waiting) (sym c.self.view_is) ∙ ap (map (release_in shown)) queue
          ∙ ap (λ o. release_by w.chain o ∷ map (release_in shown) ws) there
          ∙ ap (λ rs. release_by w.chain (Some x) ∷ rs) (sym (ap (λ (q : List Waiting). map (release_in (map (placed_in n) c.settle.new.self.held)) q) c.pop.ensures.waiting ∙ ap (λ (h : List Placed). map (release_in h) ws) held
          ∙ releases_taken (g x) w.place.0 shown ws before.stored.once.0));
      head_is = c.give-head.ensures.head ∙ ap (λ (k : ℕ). head_made c.args.position x.holding.name.interval x.holding.name.number w.chain k) (sym c.give-head.ensures.long);
      payload = ap (λ (h : Head). take h.length c.give-head.new.into) c.give-head.ensures.head ∙ c.give-head.ensures.payload;
      behind = subst (λ (h : Head). (h.length ≤ 1200) × (drop h.length c.give-head.new.into ≡ drop h.length c.args.into.now)) (sym c.give-head.ensures.head)
          ((found_passes (IsItemOf n) (is_at w.place.0) c.self.inside.buffer.held (record { place = w.place.0; item = c.item-item.result.now }) c.self.invariant.items c.item-item.ensures.item).payload, c.give-head.ensures.behind);
      held = held ∙ taken_by_order g w.place.0 x shown before.stored.distinct orders there ∙ ap (flat_map (after_take c.args.config.now c.args.tips.now x.holding.order)) view;
      given = c.pop.ensures.given ∙ ap (given_after c.self.inside.queue.given) c.in-Some.is ∙ ap (λ (s : Stored). min (s.given + 1) (2 ^ 64 - 1)) c.self.view_is;
    }
