use Rattle.std.proofs.Common.{◌≡◌, ap, sym, ◌∙◌, cond, Some}
use Rattle.std.specs.List.{list_all}
use Rattle.tesla_fitting.specs.Config.{chains}
use Rattle.tesla_walks.specs.ItemShown.{holding_in}
use Rattle.tesla_state.specs.Steps.{is_over}
use Rattle.tesla_state.specs.Stored.{Placed, without}
use Rattle.tesla_state.proofs.Sweeping.{unreleased_rests, unreleased_stands}
use Rattle.tesla_state.proofs.store.Store.let_go_over.Goals as goal

pub item-requires : goal.item-requires
item-requires c = unreleased_stands c.args.place.0 c.args.self.now.held c.requires.live

pub discard-requires : goal.discard-requires
discard-requires c = unreleased_rests c.args.place.0 c.args.self.now.held c.requires.live

pub returns-then-all_over-clause-held : goal.returns-then-all_over-clause-held
returns-then-all_over-clause-held c y e =
    let x : Placed = record { place = c.args.place.0; holding = holding_in c.args.self.now.chains c.item.result.now } in
    let found : Some x ≡ Some y = sym c.item.ensures.item ∙ e in
    let same : x ≡ y = cc in
    c.discard.ensures.held ∙ sym (ap (λ t. cond t (without c.args.place.0 c.args.self.now.held) c.args.self.now.held) (ap (λ (z : Placed). list_all (is_over c.args.tips.now z.holding) (chains c.args.config.now)) (sym same) ∙ sym (c.all_over.ensures c.args.self.now.chains) ∙ c.if-all_over.true))

pub returns-else-all_over-clause-held : goal.returns-else-all_over-clause-held
returns-else-all_over-clause-held c y e =
    let x : Placed = record { place = c.args.place.0; holding = holding_in c.args.self.now.chains c.item.result.now } in
    let found : Some x ≡ Some y = sym c.item.ensures.item ∙ e in
    let same : x ≡ y = cc in
    sym (ap (λ t. cond t (without c.args.place.0 c.args.self.now.held) c.args.self.now.held) (ap (λ (z : Placed). list_all (is_over c.args.tips.now z.holding) (chains c.args.config.now)) (sym same) ∙ sym (c.all_over.ensures c.args.self.now.chains) ∙ c.if-all_over.false))
