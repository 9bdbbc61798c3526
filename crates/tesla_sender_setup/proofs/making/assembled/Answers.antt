use Rattle.std.proofs.Common.{◌≡◌, ◌∙◌, Result, Ok, Err, sym}
use Rattle.tesla_commit.specs.Parts.{Parts}
use Rattle.tesla_commit.specs.declared.refusal.SetupRefusal.{SetupRefusal}
use Rattle.tesla_sender_setup.specs.Made.{setup_with}
use Rattle.tesla_sender_setup.specs.Parameters.{parameters_of}
use Rattle.tesla_sender_setup.proofs.Setups.{answered}
use Rattle.tesla_sender_setup.proofs.making.assembled.Goals as goal

pub unreachable-requires : goal.unreachable-requires
unreachable-requires c =
    let parts = setup_with (parameters_of c.args.parameters.now) c.args.rows.now in
    let no : ◌≡◌ {A = Result Parts SetupRefusal} (Err c.in-Err.field-0) (Ok parts) = sym c.in-Err.is ∙ answered parts c.judged_setup.result c.requires c.judged_setup.ensures in
    cc

pub returns : goal.returns
returns c =
    let parts = setup_with (parameters_of c.args.parameters.now) c.args.rows.now in
    let same : ◌≡◌ {A = Result Parts SetupRefusal} (Ok c.in-Ok.setup) (Ok parts) = sym c.in-Ok.is ∙ answered parts c.judged_setup.result c.requires c.judged_setup.ensures in
    cc
