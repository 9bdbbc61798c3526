use Rattle.std.proofs.Common.{◌≡◌, ap, sym, ◌∙◌, cond, Some}
use Rattle.std.specs.Prelude.{not}
use Rattle.tesla_state.specs.Stored.{Placed, waits, without}
use Rattle.tesla_state.proofs.Sweeping.{found_stands}
use Rattle.tesla_state.proofs.store.Store.let_go_resting.Goals as goal

pub discard-requires : goal.discard-requires
discard-requires c =
    let rests = c.is_resting.ensures in
    found_stands c.args.place.0 (λ y. not (waits y)) rests.0 c.args.self.now.held rests.1 (sym rests.2 ∙ c.if-is_resting.true)

pub returns-then-is_resting-clause-held : goal.returns-then-is_resting-clause-held
returns-then-is_resting-clause-held c y e =
    let rests = c.is_resting.ensures in
    let found : Some rests.0 ≡ Some y = sym rests.1 ∙ e in
    let same : rests.0 ≡ y = cc in
    c.discard.ensures.held ∙ sym (ap (λ t. cond t (without c.args.place.0 c.args.self.now.held) c.args.self.now.held) (ap (λ (z : Placed). not (waits z)) (sym same) ∙ sym rests.2 ∙ c.if-is_resting.true))

pub returns-else-is_resting-clause-held : goal.returns-else-is_resting-clause-held
returns-else-is_resting-clause-held c y e =
    let rests = c.is_resting.ensures in
    let found : Some rests.0 ≡ Some y = sym rests.1 ∙ e in
    let same : rests.0 ≡ y = cc in
    sym (ap (λ t. cond t (without c.args.place.0 c.args.self.now.held) c.args.self.now.held) (ap (λ (z : Placed). not (waits z)) (sym same) ∙ sym rests.2 ∙ c.if-is_resting.false))
