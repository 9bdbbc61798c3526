use Rattle.std.proofs.Common.{◌≡◌, ◌∙◌, ℕ, List, ap, subst, sym}
use Rattle.tesla_commit.specs.Parts.{IsSetupOf}
use Rattle.tesla_commit.specs.declared.chain_row.ChainRow.{ChainRow}
use Rattle.tesla_sender_setup.specs.Made.{rows_of, setup_with}
use Rattle.tesla_sender_setup.specs.Parameters.{parameters_of}
use Rattle.tesla_sender_setup.proofs.Setups.{setup_is}
use Rattle.tesla_sender_setup.proofs.making.make_setup.Goals as goal

pub assembled-requires : goal.assembled-requires
assembled-requires g c =
    let it = c.args.parameters.now in
    let same : c.as_slice-2.result.now ≡ rows_of it.schedule.last it.delays.items c.args.seeds.now =
    c.as_slice-2.ensures.value ∙ c.commitments-rows.ensures.rows ∙ ap (λ (last : ℕ). rows_of last c.as_slice.result.now c.args.seeds.now) c.last-last.ensures.value
    ∙ ap (λ (delays : List ℕ). rows_of it.schedule.last delays c.args.seeds.now) c.as_slice.ensures.value in
    subst (λ (rows : List ChainRow). IsSetupOf (setup_with (parameters_of it) rows)) (sym same)
    (setup_is (parameters_of it) c.args.seeds.now it.number c.last-last.ensures.start c.last-last.ensures.limits it.size (record { some = it.some; few = it.few; rise = it.rise }) c.requires)
