use Rattle.std.proofs.Common.{◌≡◌, ◌∷◌}
use Rattle.tesla_chain.proofs.Levels.{set_out_first}
use Rattle.tesla_chain.proofs.level.+set_out.Goals as goal

pub returns : goal.returns
returns t c = λ seed base top ahead free.
    let parts : c.args.levels.now ≡ c.in-Some.level.now ∷ c.in-Some.lower.now = c.in-Some.ensures.cases.0 in
    rw parts (λ end all is marks. set_out_first seed base top ahead free c.args.high c.in-Some.level.now c.in-Some.lower.now c.set_out.new.levels c.set_out.auto.levels end all is marks c.set_out.ensures)
