use Rattle.std.proofs.Common.{map}
use Rattle.tesla_relay.specs.Posts.{PostSeen}
use Rattle.tesla_relay.proofs.Steps.{opens_first, opens_no_post, refuses_first}
use Rattle.tesla_relay.proofs.posts.+open_posts.Goals as goal

pub returns-in_default : goal.returns-in_default
returns-in_default g t c =
    let port = g.D.Port.Post in
    let seen : g.row.D-Port.Denot → PostSeen = λ post. record { name = port.name post; sent = port.sent post; faults = port.faults post } in
    opens_no_post c.args.names.now (g.D.Environment.told c.args.desk.now) (map seen c.args.posts.now.items) c.in_default.len_below

pub returns-in-Ok : goal.returns-in-Ok
returns-in-Ok g t c =
    let told = g.D.Environment.told in let port = g.D.Port.Post in
    let seen : g.row.D-Port.Denot → PostSeen = λ post. record { name = port.name post; sent = port.sent post; faults = port.faults post } in
    opens_first seen c.args.names.now _ (told c.args.desk.now) (told c.open_one.new.desk) (told c.open_posts.new.desk) c.in-Ok.post c.args.posts.now.items c.push_reserved.new.self.items c.open_posts.new.posts.items c.open_posts.result
    c.in-len1-up.len_at_least c.in-Ok.ensures c.push_reserved.ensures.items c.open_posts.ensures

pub returns-in-Err : goal.returns-in-Err
returns-in-Err g t c =
    let told = g.D.Environment.told in let port = g.D.Port.Post in
    let seen : g.row.D-Port.Denot → PostSeen = λ post. record { name = port.name post; sent = port.sent post; faults = port.faults post } in
    refuses_first c.args.names.now _ (told c.args.desk.now) (told c.open_one.new.desk) c.in-Err.fault (map seen c.args.posts.now.items) c.in-len1-up.len_at_least c.in-Err.ensures
