use Rattle.std.proofs.Common.{◌≡◌, List, length, sym, ap, subst, ◌∙◌, arith}
use Rattle.tesla_rollover.specs.Kept.{receivers_of, waiting_of}
use Rattle.tesla_rollover.specs.Stands.{RollState, StandAll, histories_in}
use Rattle.tesla_rollover.specs.declared.epoch.Epoch.{Epoch}
use Rattle.tesla_state.specs.State.{State}
use Rattle.tesla_rollover.proofs.Called.{waiting_is}
use Rattle.tesla_rollover.proofs.rollover.Rollover.waiting.Goals as goal

pub returns-clause-value : goal.returns-clause-value
returns-clause-value c h st =
    let hs = histories_in c.args.self.now.config.ingests h in
    let shown : receivers_of c.as_slice.result.now ≡ c.args.self.now.receivers = ap receivers_of c.as_slice.ensures.value ∙ ap (λ (s : RollState). s.receivers) c.self.view_is in
    c.waiting_in.ensures.value hs (subst (λ (ss : List State). StandAll ss hs) (sym shown) st.receivers)
    ∙ ap (λ (ss : List State). waiting_of ss hs) shown ∙ waiting_is c.args.self.now.config h c.args.self.now.receivers st.configs

pub returns-clause-few : goal.returns-clause-few
returns-clause-few c =
    let few = c.waiting_in.ensures.few in
    let most = c.self.invariant.most in
    let same : length c.as_slice.result.now ≡ length c.self.inside.epochs.items = ap (λ (es : List Epoch). length es) c.as_slice.ensures.value in
    omega (arith, few, most, same)
