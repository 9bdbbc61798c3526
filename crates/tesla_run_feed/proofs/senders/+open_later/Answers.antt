use Rattle.std.proofs.Common.{◌∙◌, sym}
use Rattle.tesla_base.proofs.Lists.{drop_next}
use Rattle.tesla_run_feed.specs.Listing.{streams_in}
use Rattle.tesla_run_feed.proofs.Opened.{at_place, streams_first}
use Rattle.tesla_run_feed.proofs.senders.+open_later.Goals as goal
use Rattle.tesla_sender.specs.Made.{Stream}

pub put-requires-clause-at : goal.put-requires-clause-at
put-requires-clause-at g t c =
    let list = c.args.list.now in
    let one = c.take_first-seeded.result in
    let now = c.take_first-seeded.new.list in
    let stream : Stream = record { setup = one.setup; seeds = one.seeds } in
    let all = streams_first list.setups.items list.seeds.items one.setup one.seeds now.setups.items now.seeds.items c.take_first-seeded.ensures.setups c.take_first-seeded.ensures.seeds in
    at_place g.X.Later.streams c.args.place stream c.in-Ok.sender.stream (streams_in now) (sym c.requires.place ∙ all) c.in-Ok.ensures.opened.0

pub open_later-requires-clause-place : goal.open_later-requires-clause-place
open_later-requires-clause-place g t c κs within =
    let list = c.args.list.now in
    let one = c.take_first-seeded.result in
    let now = c.take_first-seeded.new.list in
    let stream : Stream = record { setup = one.setup; seeds = one.seeds } in
    let all = streams_first list.setups.items list.seeds.items one.setup one.seeds now.setups.items now.seeds.items c.take_first-seeded.ensures.setups c.take_first-seeded.ensures.seeds in
    sym (drop_next g.X.Later.streams c.args.place stream (streams_in now) (sym c.requires.place ∙ all))
