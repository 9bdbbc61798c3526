use Rattle.std.proofs.Common.{◌≡◌, ◌∙◌, ◌<◌, ◌++◌, ℕ, length, ap, arith}
use Rattle.std.proofs.lemmas.Bool.Decides.{nat_tests}
use Rattle.tesla_clock.specs.Schedule.{Times}
use Rattle.tesla_run_info.specs.info.Lines.{chain_line}
use Rattle.tesla_run_info.proofs.info.Chains.{next_chains}
use Rattle.tesla_run_info.proofs.info.lines.+add_chains.Goals as goal

pub returns-clause-text : goal.returns-clause-text
returns-clause-text t c =
    let setup = c.args.setup.now in
    let within : c.args.chain < length setup.rows = grind (arith, nat_tests, c.requires.count, c.requires.within, c.if-chain-count.false) in
    let size : c.length.result ≡ setup.times.length = c.length.ensures.value ∙ ap (λ (times : Times). times.length) c.schedule.ensures in
    next_chains setup.times.length c.args.chain setup.rows c.row.result c.args.lines.now.bytes c.add_chain.new.lines.bytes c.add_chains.new.lines.bytes c.row.ensures.value within
    (c.add_chain.ensures.text ∙ ap (λ (l : ℕ). c.args.lines.now.bytes ++ chain_line l c.args.chain c.row.result) size) c.add_chains.ensures.text
