use Rattle.std.proofs.Common.{ap, map}
use Rattle.tesla_relay.specs.Opening.{name_of}
use Rattle.tesla_relay.specs.Posts.{PostSeen}
use Rattle.tesla_run_relay.proofs.play.Permitted.{next_of_posts}
use Rattle.tesla_run_relay.proofs.play.run.open_and_play.Goals as goal

pub play_made-requires-clause-due : goal.play_made-requires-clause-due
play_made-requires-clause-due g c κs within =
    let told = g.D.Environment.told in let port = g.D.Port.Post in
    let seen : g.row.D-Port.Denot → PostSeen = λ post. record { name = port.name post; sent = port.sent post; faults = port.faults post } in
    λ post datagram due.
    c.requires.due post datagram
    (next_of_posts g.D.Time.Clock.gave (g.D.In.Source.left c.args.source.now) (map name_of c.args.names.now) (told c.args.desk.now) (told c.open_posts.new.desk) (map seen c.args.posts.now.items) (map seen c.open_posts.new.posts.items) (seen post) datagram (ap (map seen) c.requires.empty) c.in-Ok.ensures due)
