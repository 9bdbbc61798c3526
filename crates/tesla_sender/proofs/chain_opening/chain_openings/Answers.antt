use Rattle.std.proofs.Common.{◌≡◌, ◌∙◌, ap, arith}
use Rattle.tesla_clock.specs.Schedule.{Times}
use Rattle.tesla_sender.proofs.Opened.{all_openings, openings_more}
use Rattle.tesla_sender.proofs.chain_opening.chain_openings.Goals as goal

pub loop-number-preserved : goal.loop-number-preserved
loop-number-preserved c =
    let a = c.args in
    let last : c.last-last.result ≡ a.setup.now.times.last = c.last-last.ensures.value ∙ ap (λ (t : Times). t.last) c.schedule.ensures in
    openings_more a.setup.now a.seeds.now c.loop-number.number c.last-last.result c.row-row.result c.get-seed.result c.loop-number.openings.items c.push.new.self.items c.new-opening.result c.row-row.ensures.value c.get-seed.ensures.value last c.loop-number.invariant c.new-opening.ensures c.in-Ok.ensures.items

pub returns-clause-same : goal.returns-clause-same
returns-clause-same c =
    let a = c.args in
    all_openings a.setup.now a.seeds.now c.loop-number.number c.loop-number.openings.items c.requires (omega arith) c.loop-number.invariant
