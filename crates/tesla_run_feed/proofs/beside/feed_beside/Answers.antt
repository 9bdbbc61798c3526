use Rattle.std.proofs.Common.{◌≡◌, ◌<◌, List, length, ap, arith}
use Rattle.std.proofs.lemmas.Bool.Decides.{nat_tests}
use Rattle.tesla_run_feed.specs.Listing.{streams_in}
use Rattle.tesla_run_feed.proofs.Opened.{lack_memory, streams_size}
use Rattle.tesla_run_feed.proofs.beside.feed_beside.Goals as goal
use Rattle.tesla_sender.specs.Made.{Stream}

pub returns-clause-lacks : goal.returns-clause-lacks
returns-clause-lacks g c = λ lacking.
    let list = c.args.later.list in
    let size = streams_size list.setups.items list.seeds.items c.requires.each in
    let by : length g.X.Later.streams ≡ length (streams_in list) = ap (λ (ss : List Stream). length ss) c.requires.by in
    let some : 0 < list.setups.len = grind (arith, nat_tests, c.is_empty.ensures, c.if-is_empty.false) in
    lack_memory g.X.Later.streams (omega (arith, size, by, some, list.setups.ok.0))
