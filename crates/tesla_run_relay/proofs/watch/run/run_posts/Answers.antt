use Rattle.std.proofs.Common.{ap, map, subst, List, ℕ}
use Rattle.tesla_relay.specs.Opening.{name_of}
use Rattle.tesla_relay.specs.Posts.{PostSeen}
use Rattle.tesla_run_relay.specs.Due.{IsNextUnder}
use Rattle.tesla_run_relay.proofs.Permitted.{next_of_posts}
use Rattle.tesla_run_relay.proofs.Steps.{opened_wanted}
use Rattle.tesla_run_relay.proofs.watch.run.run_posts.Goals as goal

pub run_opened-requires-clause-posts : goal.run_opened-requires-clause-posts
run_opened-requires-clause-posts g c κs within =
    let told = g.D.Environment.told in let port = g.D.Port.Post in
    let seen : g.row.D-Port.Denot → PostSeen = λ post. record { name = port.name post; sent = port.sent post; faults = port.faults post } in
    opened_wanted seen (map name_of c.as_slice.result.now) c.args.arguments.now.relay.posts (told c.args.desk.now) (told c.open_posts.new.desk) (map seen c.args.opened.now.posts.items) c.open_posts.new.posts.items c.as_slice.ensures c.in-Ok.ensures (ap (map seen) c.requires.posts.0)

pub run_opened-requires-clause-due : goal.run_opened-requires-clause-due
run_opened-requires-clause-due g c κs within =
    let told = g.D.Environment.told in let port = g.D.Port.Post in let brought = g.D.Wire.Link.brought in
    let seen : g.row.D-Port.Denot → PostSeen = λ post. record { name = port.name post; sent = port.sent post; faults = port.faults post } in
    λ post datagram due.
    c.requires.due post datagram
    (subst (λ (names : List (List ℕ)). IsNextUnder brought names (port.name post) (port.sent post) datagram) c.as_slice.ensures
    (next_of_posts brought (map name_of c.as_slice.result.now) (told c.args.desk.now) (told c.open_posts.new.desk) (map seen c.args.opened.now.posts.items) (map seen c.open_posts.new.posts.items) (seen post) datagram (ap (map seen) c.requires.posts.0) c.in-Ok.ensures due))
