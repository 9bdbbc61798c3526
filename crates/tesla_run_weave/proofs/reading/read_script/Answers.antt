use Rattle.std.proofs.Common.{◌≡◌, ◌∙◌, ℕ, List, subst, arith}
use Rattle.tesla_front.proofs.Openings.{source_closed}
use Rattle.tesla_run_weave.proofs.Runs.{stops_reading}
use Rattle.tesla_run_weave.proofs.reading.read_script.Goals as goal

pub returns-in-Ok-clause-refused : goal.returns-in-Ok-clause-refused
returns-in-Ok-clause-refused g c =
    let told = g.D.Environment.told c.close_source.new.self in
    let named = c.read_source-read.ensures.input ∙ c.in-Ok.ensures.named in
    stops_reading c.args.setup _ _ _ (told.left c.args.name.now) c.read_source-read.result (subst (λ (n : List ℕ). told.left n ≡ g.D.In.Source.left c.read_source-read.new.source) named c.close_source.ensures.desk.own) c.in-Ok.ensures.opened c.read_source-read.ensures.reads c.read_source-read.ensures.source

pub returns-in-Ok-clause-opens : goal.returns-in-Ok-clause-opens
returns-in-Ok-clause-opens g c =
    (1, omega arith, source_closed c.args.name.now _ c.in-Ok.source (g.D.Environment.told c.args.desk.now) _ _ _ _ (c.read_source-read.ensures.input ∙ c.in-Ok.ensures.named) c.in-Ok.ensures.desk c.close_source.ensures.desk)
