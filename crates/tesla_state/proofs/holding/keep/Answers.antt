use Rattle.std.proofs.Common.{refl, ℕ, ap, sym, ◌∙◌, map, length, List, ◌++◌}
use Rattle.std.specs.List.{filter}
use Rattle.std.proofs.lemmas.List.{append-nil}
use Rattle.tesla_base.specs.declared.names.Name.{Name}
use Rattle.tesla_state.specs.Judged.{verdict_by}
use Rattle.tesla_state.specs.Kept.{state_of}
use Rattle.tesla_state.specs.Steps.{safe_by}
use Rattle.tesla_state.specs.Stored.{Placed, holding_at, is_named, is_of}
use Rattle.tesla_state.proofs.Arrived.{judged_is, own_none}
use Rattle.tesla_state.proofs.holding.keep.Goals as goal

pub hold-requires-clause-room : goal.hold-requires-clause-room
hold-requires-clause-room c = c.judge-verdict.ensures.room c.in-Kept.chains c.in-Kept.is

pub returns-in-Kept-clause-verdict : goal.returns-in-Kept-clause-verdict
returns-in-Kept-clause-verdict c ended counts calls reserved =
    let s = state_of c.args.config.now c.args.tips.now c.args.store.now ended counts calls reserved in
    let held : List Placed = c.args.store.now.held in
    sym c.in-Kept.is ∙ c.judge-verdict.ensures.value
    ∙ ap (λ (n : Name). verdict_by c.args.config.now.capacity c.args.config.now.quota c.safe_by-set.result (is_named held n) (length held) (length (filter (is_of n.interval) held))) c.name-name.ensures
    ∙ ap (λ (set : ℕ). verdict_by c.args.config.now.capacity c.args.config.now.quota set (is_named held c.args.frame.now.name) (length held) (length (filter (is_of c.args.frame.now.name.interval) held)))
    (c.safe_by-set.ensures s refl refl ∙ ap (λ (n : Name). safe_by s c.args.bound n.interval) c.name-name.ensures)
    ∙ sym (judged_is c.args.config.now c.args.tips.now c.args.store.now ended counts calls reserved (safe_by s c.args.bound c.args.frame.now.name.interval) c.args.frame.now)

pub returns-in_default : goal.returns-in_default
returns-in_default c = record {
  verdict = λ ended counts calls reserved.
      let s = state_of c.args.config.now c.args.tips.now c.args.store.now ended counts calls reserved in
      let held : List Placed = c.args.store.now.held in
      c.judge-verdict.ensures.value
      ∙ ap (λ (n : Name). verdict_by c.args.config.now.capacity c.args.config.now.quota c.safe_by-set.result (is_named held n) (length held) (length (filter (is_of n.interval) held))) c.name-name.ensures
      ∙ ap (λ (set : ℕ). verdict_by c.args.config.now.capacity c.args.config.now.quota set (is_named held c.args.frame.now.name) (length held) (length (filter (is_of c.args.frame.now.name.interval) held)))
      (c.safe_by-set.ensures s refl refl ∙ ap (λ (n : Name). safe_by s c.args.bound n.interval) c.name-name.ensures)
      ∙ sym (judged_is c.args.config.now c.args.tips.now c.args.store.now ended counts calls reserved (safe_by s c.args.bound c.args.frame.now.name.interval) c.args.frame.now);
  held = sym (ap (λ hs. map holding_at c.args.store.now.held ++ hs) (own_none c.args.order c.judge-verdict.result c.args.frame.now c.in_default.not-Kept) ∙ append-nil (map holding_at c.args.store.now.held));
  capacity = refl;
  reserved = refl;
  chains = refl;
  waiting = refl;
  given = refl;
}
