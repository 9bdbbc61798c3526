use Rattle.std.proofs.Common.{◌∙◌, ℕ, subst}
use Rattle.std.proofs.lemmas.Result.{err_from_is_err_and}
use Rattle.tesla_front.specs.OutcomeView.{stop_view}
use Rattle.tesla_front.specs.Seeds.{IsNoSeeds, IsSeedsIn}
use Rattle.tesla_run_send.proofs.Sender.{seeded, unseeded, unset}
use Rattle.tesla_run_send.proofs.opening.read_seeded.Goals as goal

pub returns-in_err-setup-clause-refused : goal.returns-in_err-setup-clause-refused
returns-in_err-setup-clause-refused g c =
    let p = err_from_is_err_and c.from_residual.result c.from_residual.ensures.1 in
    rw (p.1, p.2) (unset c.args.setup.now c.args.secret.now (g.D.Environment.told c.args.desk.now) c.in_err-setup.field-0.0 _ c.setup_under.ensures.opens c.setup_under.ensures.live c.in_err-setup.ensures.refused c.in_err-setup.ensures.causes)

pub returns-in_err-seeds-clause-refused : goal.returns-in_err-seeds-clause-refused
returns-in_err-seeds-clause-refused g c =
    let told = g.D.Environment.told in
    let secret = c.args.secret.now in
    let set = c.in_ok-setup.ensures in
    let p = err_from_is_err_and c.from_residual-in_err-seeds.result c.from_residual-in_err-seeds.ensures.1 in
    rw (p.1, p.2) (unseeded c.args.setup.now secret (told c.args.desk.now) c.in_ok-setup.setup (told c.setup_under.new.desk) set.opened set.pages set.live set.causes set.found c.in_err-seeds.field-0.0 _ c.seeds_under.ensures.opens c.seeds_under.ensures.live
    (subst (λ (n : ℕ). IsNoSeeds n ((told c.setup_under.new.desk).page secret) (stop_view c.in_err-seeds.field-0.0)) c.count.ensures.value c.in_err-seeds.ensures.refused) c.in_err-seeds.ensures.causes)

pub returns-clause-read : goal.returns-clause-read
returns-clause-read g c =
    let told = g.D.Environment.told in
    let secret = c.args.secret.now in
    let set = c.in_ok-setup.ensures in
    let found = c.in_ok-seeds.ensures in
    seeded c.args.setup.now secret (told c.args.desk.now) c.in_ok-setup.setup (told c.setup_under.new.desk) set.opened set.pages set.live set.causes set.found c.in_ok-seeds.seeds (told c.seeds_under.new.desk) found.opened found.pages found.live found.causes (found.count ∙ c.count.ensures.value)
    (subst (λ (n : ℕ). IsSeedsIn n ((told c.setup_under.new.desk).page secret) c.in_ok-seeds.seeds) c.count.ensures.value found.found)
