use Rattle.std.proofs.Common.{◌∙◌, sym}
use Rattle.tesla_state.proofs.Sweeping.{passed_go, unreleased_go}
use Rattle.tesla_state.proofs.store.Store.sweep.Goals as goal

pub returns-then-all_passed-clause-held : goal.returns-then-all_passed-clause-held
returns-then-all_passed-clause-held c =
    c.sweep_passed.ensures.held ∙ passed_go c.args.config.now c.args.tips.now c.args.interval (sym c.all_passed.ensures ∙ c.if-all_passed.true) c.args.self.now.held

pub returns-else-all_passed-clause-held : goal.returns-else-all_passed-clause-held
returns-else-all_passed-clause-held c =
    c.sweep_unreleased.ensures.held ∙ unreleased_go c.args.config.now c.args.tips.now c.args.interval (sym c.all_passed.ensures ∙ c.if-all_passed.false) c.args.self.now.held
