use Rattle.std.proofs.Common.{◌-◌, ◌^◌, take}
use Rattle.tesla_relay.specs.declared.feed.Feed.{Feed}
use Rattle.tesla_relay.proofs.Feeding.{fed_drops, fed_more, feeding_drops, feeding_more, raised_to}
use Rattle.tesla_relay.proofs.Numbered.{text_of}
use Rattle.tesla_relay.proofs.feed.Feed.offer.Goals as goal

pub returns-then-kept : goal.returns-then-kept
returns-then-kept g c =
    let put = c.put-kept.ensures.put c.if-kept.true in let item = put.0 in let same = c.put-kept.ensures.same in let pass = c.put-kept.ensures.pass in
    let old = c.args.self.now in let datagram = take c.args.length c.args.bytes.now in
    let new : Feed g.row.X.Denot = record c.put-kept.new.self { came = c.min-self.result } in
    let came = raised_to (2 ^ 62 - 2) old.came c.put-kept.new.self.came c.min-self.result c.min-self.ensures same.2 in
    record {
      feeds = record {
        feeding = feeding_more old new item datagram c.requires.feeding pass same.0 same.1 put.3 came put.1 put.2;
        same = record { table = pass.0; capacity = same.1; post = same.4 };
        fed = λ arrived fed. fed_more arrived old new item datagram (text_of item old.came datagram put.1) put.2 same.1 same.3 fed;
        came = came;
      };
      offered = c.put-kept.ensures.offered;
    }

pub returns : goal.returns
returns g c =
    let full = c.put-kept.ensures.full c.if-kept.false in let same = c.put-kept.ensures.same in let pass = c.put-kept.ensures.pass in
    let old = c.args.self.now in let datagram = take c.args.length c.args.bytes.now in
    let new : Feed g.row.X.Denot = record c.put-kept.new.self { came = c.min-self.result; dropped = c.saturating_add-self.result } in
    let came = raised_to (2 ^ 62 - 2) old.came c.put-kept.new.self.came c.min-self.result c.min-self.ensures same.2 in
    record {
      feeds = record {
        feeding = feeding_drops old new c.requires.feeding pass same.0 same.1 came full.0 full.1;
        same = record { table = pass.0; capacity = same.1; post = same.4 };
        fed = λ arrived fed. fed_drops arrived old new datagram full.0 full.1 same.1 (raised_to (2 ^ 64 - 1) old.dropped c.put-kept.new.self.dropped c.saturating_add-self.result c.saturating_add-self.ensures same.3) fed;
        came = came;
      };
      offered = c.put-kept.ensures.offered;
    }
