use Rattle.std.proofs.Common.{map}
use Rattle.tesla_relay.specs.Posts.{PostSeen}
use Rattle.tesla_relay.proofs.relaying.relay.Given as goal

-- the relay rests on what its link brings, and on its posts
abbrev pub ghosts-relay_based : goal.ghosts-relay_based
ghosts-relay_based g a =
    let seen : g.row.P.Denot → PostSeen = λ post. record { name = g.P.Post.name post; sent = g.P.Post.sent post; faults = g.P.Post.faults post } in
    record { basis = record { brought = g.K.Link.brought; posts = map seen a.posts.now.items } }
