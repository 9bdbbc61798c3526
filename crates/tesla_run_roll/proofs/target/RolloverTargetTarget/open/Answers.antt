use Rattle.std.proofs.Common.{◌≡◌, arith, rules}
use Rattle.tesla_run_replay.specs.Arguments.{arguments_of}
use Rattle.tesla_run_roll.proofs.Meanings.{says_same}
use Rattle.tesla_run_roll.proofs.target.RolloverTargetTarget.open.Goals as goal

pub open-requires-clause-few : goal.open-requires-clause-few
open-requires-clause-few c = omega (arith, c.requires.capacity.1.0.limit)

pub returns-in-Ok-clause-calls : goal.returns-in-Ok-clause-calls
returns-in-Ok-clause-calls c = c.in-Ok.ensures.stands.calls

pub returns-in-Ok-clause-means : goal.returns-in-Ok-clause-means
returns-in-Ok-clause-means c =
    let limits = c.args.arguments.now.limits in
    let config : c.in-Ok.rollover.config ≡ record { setup = c.args.setup; lag = c.args.arguments.now.lag; capacity = limits.capacity; quota = limits.capacity; ingests = 1 } = search rules in
    says_same (arguments_of c.args.arguments.now) c.args.setup c.in-Ok.rollover.config c.requires.capacity.1.1 config
