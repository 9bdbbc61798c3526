use Rattle.std.proofs.Common.{◌≡◌, refl, ap, sym, ◌∙◌, subst, length, map, flat_map, List, [], ◌++◌}
use Rattle.std.proofs.lemmas.Bool.{eqb-true}
use Rattle.std.proofs.lemmas.List.{append-nil, nil_from_length}
use Rattle.std.specs.Prelude.{All, not, ◌&&◌}
use Rattle.std.specs.List.{filter}
use Rattle.tesla_keys.specs.Tip.{Tip}
use Rattle.tesla_base.specs.Members.{Distinct}
use Rattle.tesla_frame.specs.declared.row.KeyRow.{KeyRow}
use Rattle.tesla_walks.specs.declared.release.Release.{Release}
use Rattle.tesla_walks.specs.Tips.{tips_after}
use Rattle.tesla_state.specs.Steps.{batch_of, released_of}
use Rattle.tesla_state.specs.Stored.{Placed, holding_at, slot_of, release_of, after_batch, in_reach, is_idle}
use Rattle.tesla_walks.specs.Walking.{rows_of}
use Rattle.tesla_walks.specs.Offered.{IsOfChains}
use Rattle.tesla_state.proofs.UnreachedIntervals.{few_chains}
use Rattle.tesla_state.proofs.Batch.{orders_differ}
use Rattle.tesla_state.proofs.KeysTaken.{kept_is, apart_after, held_none, held_stays, none_released, released_none}
use Rattle.tesla_state.proofs.keys.take_keys.Goals.{then-is_empty-via-then-is_empty, then-is_empty-via-else-is_empty+then-held-eq0}
use Rattle.tesla_state.proofs.keys.take_keys.Goals as goal

-- no new key, or no packet that is held
pub returns-then-is_empty-clause-taken : goal.returns-then-is_empty-clause-taken
returns-then-is_empty-clause-taken g c =
    let tips = c.args.tips.now in
    let rows = rows_of c.args.walks.now in
    let store = c.args.store.now in
    record {
      newest = c.raise.ensures;
      held = elim c.then-is_empty.branch [
        | then-is_empty-via-then-is_empty w ↦ held_stays c.args.config.now tips rows (ap rows_of (nil_from_length c.args.walks.now (eqb-true _ _ (sym c.is_empty.ensures ∙ w.if-is_empty.true)))) store.held c.requires.needed
        | then-is_empty-via-else-is_empty+then-held-eq0 w ↦ held_none c.args.config.now tips (tips_after tips rows) rows store.held (nil_from_length store.held (sym w.held.ensures.value ∙ w.if-held-eq0.true))
      ];
      waiting =
          let none : released_of (map holding_at store.held) (batch_of c.args.config.now tips rows (map holding_at store.held)) ≡ [] =
          elim c.then-is_empty.branch [
            | then-is_empty-via-then-is_empty w ↦ none_released c.args.config.now tips rows (ap rows_of (nil_from_length c.args.walks.now (eqb-true _ _ (sym c.is_empty.ensures ∙ w.if-is_empty.true)))) (map holding_at store.held)
            | then-is_empty-via-else-is_empty+then-held-eq0 w ↦ released_none c.args.config.now tips (tips_after tips rows) rows store.held (nil_from_length store.held (sym w.held.ensures.value ∙ w.if-held-eq0.true))
          ] in
          sym (ap (λ rs. store.waiting ++ rs) none ∙ append-nil store.waiting);
      capacity = refl;
      reserved = refl;
      chains = refl;
      given = refl;
    }

pub release_all-requires-clause-orders : goal.release_all-requires-clause-orders
release_all-requires-clause-orders g c = orders_differ c.args.store.now.held c.requires.orders

pub let_go-requires-clause-apart : goal.let_go-requires-clause-apart
let_go-requires-clause-apart g c =
    subst (λ (h : List Placed). Distinct (map slot_of h)) (sym c.release_all.ensures.held)
    (apart_after (map release_of c.deref.result.now) (released_of (map holding_at c.args.store.now.held) (map release_of c.deref.result.now)) c.args.store.now.held c.held.ensures.apart)

pub let_go-requires-clause-chains : goal.let_go-requires-clause-chains
let_go-requires-clause-chains g c =
    few_chains c.args.tips.now (rows_of c.prove_held.new.walks) c.reach_of-reach.ensures.few
    (subst (λ (rows : List KeyRow). All (IsOfChains (length c.args.tips.now)) rows) (sym c.prove_held.ensures.rows) c.requires.of_chains)

pub returns-clause-taken : goal.returns-clause-taken
returns-clause-taken g c =
    let held : List Placed = c.args.store.now.held in
    let new : List KeyRow = rows_of c.args.walks.now in
    let batch : List Release = batch_of c.args.config.now c.args.tips.now new (map holding_at held) in
    let told : map release_of c.deref.result.now ≡ batch = ap (map release_of) c.deref.ensures.value ∙ c.prove_held.ensures.releases in
    let tips : c.raise-2.new.tips ≡ tips_after c.args.tips.now new = c.raise-2.ensures ∙ ap (tips_after c.args.tips.now) c.prove_held.ensures.rows in
    record {
      newest = tips;
      held =
          ap (map holding_at) (c.let_go.ensures.held
          ∙ ap (λ (rows : List KeyRow). filter (λ x. not (in_reach c.reach_of-reach.result rows x && is_idle c.args.config.now c.raise-2.new.tips x)) c.release_all.new.self.held) c.prove_held.ensures.rows
          ∙ ap (filter (λ x. not (in_reach c.reach_of-reach.result new x && is_idle c.args.config.now c.raise-2.new.tips x))) (c.release_all.ensures.held ∙ ap (λ (rs : List Release). flat_map (after_batch rs (released_of (map holding_at held) rs)) held) told)
          ∙ ap (λ (ts : List Tip). filter (λ x. not (in_reach c.reach_of-reach.result new x && is_idle c.args.config.now ts x)) (flat_map (after_batch batch (released_of (map holding_at held) batch)) held)) tips)
          ∙ kept_is c.args.config.now c.args.tips.now new c.reach_of-reach.result c.reach_of-reach.ensures.spans c.reach_of-reach.ensures.indices c.requires.of_chains (released_of (map holding_at held) batch) held (orders_differ held c.requires.orders) c.requires.needed;
      waiting = c.let_go.ensures.waiting ∙ c.release_all.ensures.waiting ∙ ap (λ (rs : List Release). c.args.store.now.waiting ++ released_of (map holding_at held) rs) told;
      capacity = c.let_go.ensures.capacity ∙ c.release_all.ensures.capacity;
      reserved = c.let_go.ensures.reserved ∙ c.release_all.ensures.reserved;
      chains = c.let_go.ensures.chains ∙ c.release_all.ensures.chains;
      given = c.let_go.ensures.given ∙ c.release_all.ensures.given;
    }
