use Rattle.std.proofs.Common.{◌≡◌, length, arith}
use Rattle.tesla_seeds.proofs.Spelled.{seeds_spelled}
use Rattle.tesla_seeds.proofs.reading.all.Goals as goal

pub assemble-requires-clause-few : goal.assemble-requires-clause-few
assemble-requires-clause-few c =
    let each : length c.in_ok-keys.keys.items ≡ c.args.count = (seeds_spelled _ _ _ _ c.in_ok-keys.ensures).each in
    omega arith

pub assemble-requires-clause-keys : goal.assemble-requires-clause-keys
assemble-requires-clause-keys c = (seeds_spelled _ _ _ _ c.in_ok-keys.ensures).keys
