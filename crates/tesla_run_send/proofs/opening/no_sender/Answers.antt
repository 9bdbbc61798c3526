use Rattle.std.proofs.Common.{◌+◌, ℕ, ap}
use Rattle.tesla_run_send.proofs.Sender.{seed_is_wrong}
use Rattle.tesla_run_send.proofs.opening.no_sender.Goals as goal

pub returns-in-WrongSeed : goal.returns-in-WrongSeed
returns-in-WrongSeed c = λ stream why.
    seed_is_wrong stream c.args.refusal c.in-WrongSeed.chain (c.from-line.result + 2) c.refused.result.status c.refused.result.line.bytes _
    c.in-WrongSeed.is (ap (λ (n : ℕ). n + 2) c.from-line.ensures) c.refused.ensures.status_is c.refused.ensures.line_is why
