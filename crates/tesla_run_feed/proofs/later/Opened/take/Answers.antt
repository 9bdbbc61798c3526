use Rattle.std.proofs.Common.{◌≡◌, ◌∷◌, map, ap, arith}
use Rattle.tesla_run_feed.specs.Later.{is_unused, stream_of}
use Rattle.tesla_run_feed.specs.Listing.{is_right_stream}
use Rattle.tesla_run_feed.proofs.Opened.{all_fewer, taken_are, taken_first}
use Rattle.tesla_run_feed.proofs.later.Opened.take.Goals as goal

pub invariant_of-self : goal.invariant_of-self
invariant_of-self g c =
    let it = c.args.self.now in
    let all = it.senders.items in
    let sender = c.remove.result in
    let now = c.remove.new.self.items in
    let is : all ≡ sender ∷ now = taken_first all now sender (omega (arith, c.remove.ensures.len, it.senders.ok.0)) c.remove.ensures.value c.remove.ensures.by_index.2 in
    record {
      are = taken_are g.X.Later.streams it.put it.taken all now sender is it.are;
      unused = (all_fewer is_unused all now sender is it.unused).1;
      right = (all_fewer is_right_stream (map stream_of all) (map stream_of now) sender.stream (ap (map stream_of) is) it.right).1;
    }
