use Rattle.std.proofs.Common.{◌≡◌, ◌≤◌, ◌+◌, ◌*◌, ◌++◌, ℕ, ap, sym, ◌∙◌, subst, map, Some, List}
use Rattle.std.specs.Prelude.{All, option_to_list}
use Rattle.std.specs.List.{list_all, list_any}
use Rattle.tesla_base.proofs.Lists.{list_all_both}
use Rattle.tesla_walks.specs.ItemShown.{holding_in, IsItem}
use Rattle.tesla_walks.specs.Proved.{release_in, proof_of}
use Rattle.tesla_state.specs.Stored.{Placed, is_proved_by}
use Rattle.tesla_walks.specs.declared.ordering.Proved.{Proved}
use Rattle.tesla_walks.specs.Walking.{IsAbove, rows_of, left, tries}
use Rattle.tesla_state.proofs.TriedIntervals.{one_proved, map-released}
use Rattle.tesla_state.proofs.store.Store.try_at.Goals as goal

pub prove-proved-requires : goal.prove-proved-requires
prove-proved-requires g c = record {
  tips = c.requires.tips;
  rise = c.requires.rise;
  above = c.requires.above (record { place = c.args.place.0; holding = holding_in c.args.self.now.chains c.item.result.now }) c.item.ensures.item;
  item = subst (λ (n : ℕ). IsItem n c.item.result.now) c.requires.chains c.item.ensures.room;
}

pub returns-clause-releases : goal.returns-clause-releases
returns-clause-releases g c y e =
    let x : Placed = record { place = c.args.place.0; holding = holding_in c.args.self.now.chains c.item.result.now } in
    let found : Some x ≡ Some y = sym c.item.ensures.item ∙ e in
    let same : x ≡ y = cc in
    ap (map release_in) c.append.ensures.items ∙ map-released c.args.batch.now.items (option_to_list c.prove-proved.result)
    ∙ ap (λ rs. map release_in c.args.batch.now.items ++ rs)
    (c.prove-proved.ensures.value ∙ ap (λ (n : ℕ). proof_of c.args.newest.now.config.now c.args.newest.now.tips.now (rows_of c.args.walks.now) (holding_in n c.item.result.now)) (sym c.requires.chains)
    ∙ ap (λ (z : Placed). proof_of c.args.newest.now.config.now c.args.newest.now.tips.now (rows_of c.args.walks.now) z.holding) same)

pub returns-clause-proved : goal.returns-clause-proved
returns-clause-proved g c h =
    let x : Placed = record { place = c.args.place.0; holding = holding_in c.args.self.now.chains c.item.result.now } in
    ap (λ (qs : List Proved). list_all (λ (p : Proved). list_any (is_proved_by p) c.args.self.now.held) qs) c.append.ensures.items
    ∙ list_all_both (λ (p : Proved). list_any (is_proved_by p) c.args.self.now.held) c.args.batch.now.items (option_to_list c.prove-proved.result) h
    (one_proved c.args.newest.now.config.now c.args.newest.now.tips.now (rows_of c.args.walks.now) c.args.self.now.held c.args.place x c.prove-proved.result c.item.ensures.item
    (c.prove-proved.ensures.value ∙ ap (λ (n : ℕ). proof_of c.args.newest.now.config.now c.args.newest.now.tips.now (rows_of c.args.walks.now) (holding_in n c.item.result.now)) (sym c.requires.chains)) c.prove-proved.ensures.place)

pub returns-clause-above : goal.returns-clause-above
returns-clause-above g c y e =
    let x : Placed = record { place = c.args.place.0; holding = holding_in c.args.self.now.chains c.item.result.now } in
    let found : Some x ≡ Some y = sym c.item.ensures.item ∙ e in
    let same : x ≡ y = cc in
    subst (λ (z : Placed). All (IsAbove z.holding.name.interval) c.prove-proved.new.walks) same c.prove-proved.ensures.above

pub returns-clause-cost : goal.returns-clause-cost
returns-clause-cost g c y e =
    let x : Placed = record { place = c.args.place.0; holding = holding_in c.args.self.now.chains c.item.result.now } in
    let found : Some x ≡ Some y = sym c.item.ensures.item ∙ e in
    let same : x ≡ y = cc in
    let paid = subst (λ (n : ℕ). c.prove-proved.new.steps + left c.args.newest.now.tips.now c.prove-proved.new.walks ≤ c.args.steps.now + left c.args.newest.now.tips.now c.args.walks.now + 2 * tries c.args.newest.now.config.now c.args.newest.now.tips.now (rows_of c.args.walks.now) (holding_in n c.item.result.now)) (sym c.requires.chains) c.prove-proved.ensures.cost in
    subst (λ (z : Placed). c.prove-proved.new.steps + left c.args.newest.now.tips.now c.prove-proved.new.walks ≤ c.args.steps.now + left c.args.newest.now.tips.now c.args.walks.now + 2 * tries c.args.newest.now.config.now c.args.newest.now.tips.now (rows_of c.args.walks.now) z.holding) same paid
