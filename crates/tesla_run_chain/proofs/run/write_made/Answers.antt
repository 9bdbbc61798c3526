use Rattle.std.proofs.Common.{◌≤◌, [], ◌∷◌, refl, arith}
use Rattle.tesla_desk.specs.Outside.{OfSink}
use Rattle.tesla_front.proofs.Openings.{opens_none}
use Rattle.tesla_run_chain.proofs.Runs.{stopped_causes}
use Rattle.tesla_run_chain.proofs.run.write_made.Goals as goal

pub returns-clause-causes : goal.returns-clause-causes
returns-clause-causes g c = stopped_causes c.in-Err.fault _ _ c.in-Err.ensures.causes

pub returns-in_default-clause-opens : goal.returns-in_default-clause-opens
returns-in_default-clause-opens g c =
    let told = g.D.Environment.told c.args.desk.now in
    let none : 0 ≤ 1 = omega arith in
    (0, none, opens_none (OfSink c.args.arguments.now.out.now ∷ []) told told refl (λ name. refl) (λ name. refl))
