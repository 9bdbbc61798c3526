use Rattle.std.proofs.Common.{◌≡◌, ◌+◌, ◌≤◌, length, ◌∙◌, ap, subst, arith}
use Rattle.tesla_chain.specs.Cost.{W}
use Rattle.tesla_clock.specs.Schedule.{Times}
use Rattle.tesla_sender.proofs.Opened.{all_fresh, all_right, cost_more, cost_refused, fresh_more, refused_here, right_more}
use Rattle.tesla_sender.proofs.opening.open_chains.Goals as goal

pub returns-in-Err-clause-refused : goal.returns-in-Err-clause-refused
returns-in-Err-clause-refused g c =
    let a = c.args in
    let last : c.last-last.result ≡ a.setup.now.times.last = c.last-last.ensures.value ∙ ap (λ (t : Times). t.last) c.schedule.ensures in
    refused_here a.setup.now a.seeds.now c.loop-number.number c.last-last.result c.row-row.result c.get-seed.result c.in-Err.refusal c.row-row.ensures.value c.get-seed.ensures.value last c.loop-number.invariant.right c.in-Err.ensures.refused

pub loop-number-preserved : goal.loop-number-preserved
loop-number-preserved g c =
    let a = c.args in
    let kept = c.loop-number.invariant in
    let last : c.last-last.result ≡ a.setup.now.times.last = c.last-last.ensures.value ∙ ap (λ (t : Times). t.last) c.schedule.ensures in
    let opened = c.in-Ok.ensures.opened in
    let pushed = c.in-Ok-push.ensures.items in
    let bound = W a.setup.now.times.last + a.setup.now.times.last in
    let cost : c.open.new.steps + c.in-Ok.chain.left ≤ c.loop-number.steps + bound = subst (λ l. c.open.new.steps + c.in-Ok.chain.left ≤ c.loop-number.steps + (W l + l)) last c.in-Ok.ensures.cost in
    record {
      fresh = fresh_more a.setup.now a.seeds.now c.loop-number.number c.last-last.result c.row-row.result c.get-seed.result c.loop-number.chains.items c.push.new.self.items c.in-Ok.chain c.row-row.ensures.value c.get-seed.ensures.value last kept.fresh opened pushed;
      right = right_more a.setup.now a.seeds.now c.loop-number.number c.last-last.result c.row-row.result c.get-seed.result c.row-row.ensures.value c.get-seed.ensures.value last kept.right opened.right;
      cost = cost_more a.steps.now c.loop-number.steps c.open.new.steps c.loop-number.number bound c.loop-number.chains.items c.push.new.self.items c.in-Ok.chain kept.cost cost pushed;
    }

pub returns-in_default-clause-cost_refused : goal.returns-in_default-clause-cost_refused
returns-in_default-clause-cost_refused g c =
    let a = c.args in
    let last : c.last-last.result ≡ a.setup.now.times.last = c.last-last.ensures.value ∙ ap (λ (t : Times). t.last) c.schedule.ensures in
    let bound = W a.setup.now.times.last + a.setup.now.times.last in
    let cost : c.open.new.steps + c.in-Ok.chain.left ≤ c.loop-number.steps + bound = subst (λ l. c.open.new.steps + c.in-Ok.chain.left ≤ c.loop-number.steps + (W l + l)) last c.in-Ok.ensures.cost in
    cost_refused a.steps.now c.loop-number.steps c.open.new.steps c.loop-number.number (length a.setup.now.rows) bound _ c.in-Ok.chain.left c.loop-number.invariant.cost cost (omega (arith, c.loop-number-test.true, c.count-count.ensures.value))

pub returns-clause-opened : goal.returns-clause-opened
returns-clause-opened g c =
    let a = c.args in
    all_fresh a.setup.now a.seeds.now c.loop-number.number c.loop-number.chains.items c.requires (omega arith) c.loop-number.invariant.fresh

pub returns-clause-right : goal.returns-clause-right
returns-clause-right g c =
    let a = c.args in
    all_right a.setup.now a.seeds.now c.loop-number.number c.requires (omega arith) c.loop-number.invariant.right
