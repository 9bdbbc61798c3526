use Rattle.std.proofs.Common.{◌∙◌, List, length, ap, arith, sym}
use Rattle.tesla_feeds.specs.Later.{last_streams}
use Rattle.tesla_run_feed.specs.Listing.{streams_in}
use Rattle.tesla_run_feed.proofs.Opened.{each_behind, last_all, last_fewer, streams_first, streams_size}
use Rattle.tesla_run_feed.proofs.senders.+keep_last.Goals as goal
use Rattle.tesla_sender.specs.Made.{Stream}

pub returns-then-len-many-clause-last : goal.returns-then-len-many-clause-last
returns-then-len-many-clause-last t c =
    let list = c.args.list.now in
    let size = streams_size list.setups.items list.seeds.items c.requires.each in
    sym (last_all (streams_in list) c.args.many (omega (arith, size, c.len.ensures, list.setups.ok.0)))

pub returns-clause-last : goal.returns-clause-last
returns-clause-last t c =
    let list = c.args.list.now in
    let one = c.take_first.result in
    let now = c.take_first.new.list in
    let stream : Stream = record { setup = one.setup; seeds = one.seeds } in
    let all = streams_first list.setups.items list.seeds.items one.setup one.seeds now.setups.items now.seeds.items c.take_first.ensures.setups c.take_first.ensures.seeds in
    let as_many = each_behind list.setups.items list.seeds.items one.setup one.seeds now.setups.items now.seeds.items c.take_first.ensures.setups c.take_first.ensures.seeds c.requires.each in
    let size = streams_size list.setups.items list.seeds.items c.requires.each in
    let fewer = streams_size now.setups.items now.seeds.items as_many in
    let length_is = ap (λ (ss : List Stream). length ss) all in
    c.keep_last.ensures.last
    ∙ sym (ap (λ (ss : List Stream). last_streams c.args.many ss) all ∙ last_fewer stream (streams_in now) c.args.many (omega (arith, size, fewer, length_is, c.len.ensures, list.setups.ok.0)))
