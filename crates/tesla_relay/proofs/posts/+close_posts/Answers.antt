use Rattle.tesla_relay.specs.Posts.{PostSeen}
use Rattle.tesla_relay.proofs.Steps.{closes_seen}
use Rattle.tesla_relay.proofs.posts.+close_posts.Goals as goal

pub returns-clause-closes : goal.returns-clause-closes
returns-clause-closes g t c =
    let told = g.D.Environment.told in let port = g.D.Port.Post in
    let seen : g.row.D-Port.Denot → PostSeen = λ post. record { name = port.name post; sent = port.sent post; faults = port.faults post } in
    rw c.in-Some.ensures.items (closes_seen seen c.pop.new.self.items c.in-Some.post (told c.args.desk.now) (told c.close_post.new.self) (told c.close_posts.new.desk) c.close_post.ensures.desk c.close_posts.ensures.closes)
