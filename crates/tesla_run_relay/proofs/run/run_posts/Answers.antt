use Rattle.std.proofs.Common.{◌∙◌, ap, map, refl, subst, sym, ℕ, List}
use Rattle.tesla_front.specs.OutcomeView.{outcome_view}
use Rattle.tesla_relay.specs.Opening.{name_of}
use Rattle.tesla_relay.specs.Offers.{MayAskNext}
use Rattle.tesla_relay.specs.Posts.{PostSeen}
use Rattle.tesla_run_relay.specs.Due.{IsNextUnder}
use Rattle.tesla_run_relay.proofs.Permitted.{next_of_posts}
use Rattle.tesla_run_relay.proofs.Steps.{counted_size, opened_wanted, opened_some, runs_relay}
use Rattle.tesla_run_relay.proofs.run.run_posts.Goals as goal

pub relay_opened-requires-clause-some : goal.relay_opened-requires-clause-some
relay_opened-requires-clause-some g c κs within =
    let told = g.D.Environment.told in let port = g.D.Port.Post in
    let seen : g.row.D-Port.Denot → PostSeen = λ post. record { name = port.name post; sent = port.sent post; faults = port.faults post } in
    opened_some seen (map name_of c.as_slice.result.now) c.args.arguments.now.posts (told c.args.desk.now) (told c.open_posts.new.desk) (map seen c.args.room.now.posts.items) c.open_posts.new.posts.items c.as_slice.ensures c.in-Ok.ensures (ap (map seen) c.requires.posts.0) c.requires.some

pub relay_opened-requires-clause-sides : goal.relay_opened-requires-clause-sides
relay_opened-requires-clause-sides g c κs within =
    let told = g.D.Environment.told in let port = g.D.Port.Post in
    let seen : g.row.D-Port.Denot → PostSeen = λ post. record { name = port.name post; sent = port.sent post; faults = port.faults post } in
    c.requires.sides ∙ sym (opened_wanted seen (map name_of c.as_slice.result.now) c.args.arguments.now.posts (told c.args.desk.now) (told c.open_posts.new.desk) (map seen c.args.room.now.posts.items) c.open_posts.new.posts.items c.as_slice.ensures c.in-Ok.ensures (ap (map seen) c.requires.posts.0))

pub outcome_of-requires-clause-posts : goal.outcome_of-requires-clause-posts
outcome_of-requires-clause-posts g c =
    let told = g.D.Environment.told in let port = g.D.Port.Post in let wire = g.D.Wire.Link in
    let seen : g.row.D-Port.Denot → PostSeen = λ post. record { name = port.name post; sent = port.sent post; faults = port.faults post } in
    let it = c.in-Ok-relay_opened.relayed in
    counted_size seen (map name_of c.as_slice.result.now) c.args.arguments.now.posts (told c.args.desk.now) (told c.open_posts.new.desk) (map seen c.args.room.now.posts.items) c.open_posts.new.posts.items
    c.args.arguments.now.capacity (wire.left c.args.link.now) (wire.left c.relay_opened.new.link) c.relay_opened.new.room.posts.items it.end it.counts.items c.in-Ok-relay_opened.ensures.relays
    c.len.result c.len.ensures c.as_slice.ensures c.in-Ok.ensures (ap (map seen) c.requires.posts.0)

pub returns-in-Ok-relay_opened-clause-runs : goal.returns-in-Ok-relay_opened-clause-runs
returns-in-Ok-relay_opened-clause-runs g c =
    let told = g.D.Environment.told in let port = g.D.Port.Post in let wire = g.D.Wire.Link in
    let seen : g.row.D-Port.Denot → PostSeen = λ post. record { name = port.name post; sent = port.sent post; faults = port.faults post } in
    let it = c.in-Ok-relay_opened.relayed in
    runs_relay seen (map name_of c.as_slice.result.now) c.args.arguments.now.posts (told c.args.desk.now) (told c.open_posts.new.desk) (map seen c.args.room.now.posts.items) c.open_posts.new.posts.items
    c.args.arguments.now.capacity (wire.left c.args.link.now) (wire.left c.relay_opened.new.link) c.relay_opened.new.room.posts.items it.end it.counts.items c.in-Ok-relay_opened.ensures.relays
    (wire.faults c.args.link.now) (wire.faults c.relay_opened.new.link) (told c.open_posts.new.desk) (outcome_view c.outcome_of.result) c.as_slice.ensures c.in-Ok.ensures (ap (map seen) c.requires.posts.0) refl c.in-Ok-relay_opened.ensures.cause c.outcome_of.ensures

pub relay_opened-requires-clause-due : goal.relay_opened-requires-clause-due
relay_opened-requires-clause-due g c κs within =
    let told = g.D.Environment.told in let port = g.D.Port.Post in let brought = g.D.Wire.Link.brought in
    let seen : g.row.D-Port.Denot → PostSeen = λ post. record { name = port.name post; sent = port.sent post; faults = port.faults post } in
    λ post datagram due.
    c.requires.due post datagram
    (subst (λ (names : List (List ℕ)). IsNextUnder brought names (port.name post) (port.sent post) datagram) c.as_slice.ensures
    (next_of_posts brought (map name_of c.as_slice.result.now) (told c.args.desk.now) (told c.open_posts.new.desk) (map seen c.args.room.now.posts.items) (map seen c.open_posts.new.posts.items) (seen post) datagram (ap (map seen) c.requires.posts.0) c.in-Ok.ensures due))

pub relay_opened-requires-clause-asks : goal.relay_opened-requires-clause-asks
relay_opened-requires-clause-asks g c κs within =
    let told = g.D.Environment.told in let port = g.D.Port.Post in let wire = g.D.Wire.Link in let queues = g.D.PostQueues in
    let seen : g.row.D-Port.Denot → PostSeen = λ post. record { name = port.name post; sent = port.sent post; faults = port.faults post } in
    let size = opened_wanted seen (map name_of c.as_slice.result.now) c.args.arguments.now.posts (told c.args.desk.now) (told c.open_posts.new.desk) (map seen c.args.room.now.posts.items) c.open_posts.new.posts.items c.as_slice.ensures c.in-Ok.ensures (ap (map seen) c.requires.posts.0) in
    subst (MayAskNext (queues.was_put wire.brought) (queues.was_full wire.brought) wire.has_brought wire.may_ask c.args.arguments.now.capacity) (sym size) c.requires.asks
