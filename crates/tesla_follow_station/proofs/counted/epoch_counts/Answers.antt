use Rattle.std.proofs.Common.{arith}
use Rattle.tesla_follow.proofs.Places.{some_epoch}
use Rattle.tesla_follow_station.proofs.counted.epoch_counts.Goals as goal

pub overflow_sub-result : goal.overflow_sub-result
overflow_sub-result c =
    let (h, stood) = c.requires in
    let epochs = c.epochs.ensures h stood in
    let some = some_epoch c.args.follower.now.config h in
    omega (arith, epochs, some)
