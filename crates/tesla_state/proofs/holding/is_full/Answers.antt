use Rattle.std.proofs.Common.{◌≡◌, ◌<◌, ◌==◌, false, length, sym, ap, ◌∙◌, arith, filter}
use Rattle.std.proofs.lemmas.Bool.{or_from}
use Rattle.std.proofs.lemmas.Bool.Decides.{nat_tests}
use Rattle.tesla_base.proofs.Filtered.{filter_shorter}
use Rattle.tesla_state.specs.Stored.{is_of}
use Rattle.tesla_state.proofs.holding.is_full.Goals as goal

-- those of the interval are no more than all, which are fewer than the quota
pub returns-then-held-config-2-clause-value : goal.returns-then-held-config-2-clause-value
returns-then-held-config-2-clause-value c =
    let held = c.args.store.now.held in
    let few = filter_shorter (is_of c.args.interval) held in
    let below : length held < c.args.config.now.quota = omega (arith, c.if-held-config-2.true, c.held-held.ensures.value) in
    let not_all : (length held == c.args.config.now.capacity) ≡ false = ap (λ n. n == c.args.config.now.capacity) (sym c.held-held.ensures.value) ∙ grind (arith, nat_tests) in
    let not_quota : (length (filter (is_of c.args.interval) held) == c.args.config.now.quota) ≡ false = grind (arith, nat_tests) in
    sym (or_from (length held == c.args.config.now.capacity) (length (filter (is_of c.args.interval) held) == c.args.config.now.quota) not_all not_quota)
