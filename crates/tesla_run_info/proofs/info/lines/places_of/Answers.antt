use Rattle.std.proofs.Common.{◌≡◌, ◌∙◌, ◌+◌, ◌-◌, ◌*◌, ◌/◌, ℕ, length, ap, sym, arith}
use Rattle.tesla_clock.specs.Schedule.{Times}
use Rattle.tesla_run_info.specs.info.Lines.{slowest}
use Rattle.tesla_run_info.proofs.info.Chains.{slowest_is}
use Rattle.tesla_run_info.proofs.info.lines.places_of.Goals as goal

pub returns : goal.returns
returns c =
    let setup = c.args.setup.now in
    let last : c.count.result - 1 + 1 ≡ length setup.rows = omega (arith, c.count.ensures.value, c.count.ensures.some) in
    let delay : c.from-delay.result ≡ slowest setup.rows = c.from-delay.ensures ∙ sym (slowest_is setup.rows (c.count.result - 1) c.row.result last c.row.ensures.value) in
    let size : c.from-length.result ≡ setup.times.length = c.from-length.ensures ∙ c.length.ensures.value ∙ ap (λ (t : Times). t.length) c.schedule.ensures in
    ap (λ (r : ℕ). (r * ((c.from-delay.result + 1) * c.from-length.result) + 999999) / 1000000) c.from-rate.ensures
    ∙ ap (λ (d : ℕ). (c.args.rate * ((d + 1) * c.from-length.result) + 999999) / 1000000) delay
    ∙ ap (λ (l : ℕ). (c.args.rate * ((slowest setup.rows + 1) * l) + 999999) / 1000000) size
