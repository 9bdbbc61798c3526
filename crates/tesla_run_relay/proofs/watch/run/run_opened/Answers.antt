use Rattle.std.proofs.Common.{◌∙◌, ℕ, map, subst, sym}
use Rattle.std.proofs.lemmas.List.{length-map}
use Rattle.tesla_front.specs.OutcomeView.{outcome_view}
use Rattle.tesla_relay.specs.Posts.{PostSeen}
use Rattle.tesla_run_relay.specs.watch.Steps.{RunsOpened}
use Rattle.tesla_run_relay.proofs.watch.Steps.{counted_open, runs_open}
use Rattle.tesla_run_relay.proofs.watch.run.run_opened.Goals as goal

pub end_status-requires-clause-posts : goal.end_status-requires-clause-posts
end_status-requires-clause-posts g c κs within =
    let port = g.D.Port.Post in let wire = g.D.Wire.Link in let old = c.args.opened.now in let new = c.relay_beside-relayed.new.opened in
    let seen : g.row.D-Port.Denot → PostSeen = λ post. record { name = port.name post; sent = port.sent post; faults = port.faults post } in
    counted_open old.capacity (wire.left old.link) (wire.left new.link) (wire.faults old.link) (wire.faults new.link) (wire.name old.link) (wire.name new.link) (map seen old.posts.items) (map seen new.posts.items)
    c.relay_beside-relayed.result c.len.result c.relay_beside-relayed.ensures.relays (c.len.ensures ∙ sym c.requires.posts ∙ sym (length-map old.posts.items seen))

pub returns-in-Ok-clause-runs : goal.returns-in-Ok-clause-runs
returns-in-Ok-clause-runs g c =
    let told = g.D.Environment.told in
    let port = g.D.Port.Post in let wire = g.D.Wire.Link in let old = c.args.opened.now in let new = c.relay_beside-relayed.new.opened in
    let seen : g.row.D-Port.Denot → PostSeen = λ post. record { name = port.name post; sent = port.sent post; faults = port.faults post } in
    let status = c.args.arguments.now.status.now in
    let outcome = outcome_view c.end_status.result in
    subst (λ (n : ℕ). RunsOpened n status (wire.left old.link) (wire.left new.link) (wire.faults old.link) (wire.faults new.link) (told c.args.desk.now) (told c.end_status.new.desk) (map seen old.posts.items) (map seen new.posts.items) outcome) c.requires.capacity
    (runs_open old.capacity (wire.left old.link) (wire.left new.link) (wire.faults old.link) (wire.faults new.link) (wire.name old.link) (wire.name new.link) (map seen old.posts.items) (map seen new.posts.items)
    status (g.D.Pieces.Output.name c.relay_beside-relayed.new.beside.status.sink) c.len.result (told c.args.desk.now) (told c.monitor_for.new.desk) (told c.end_status.new.desk) outcome
    (c.relay_beside-relayed.ensures.beside.1 ∙ c.in-Ok.ensures.name) (c.len.ensures ∙ sym c.requires.posts ∙ sym (length-map old.posts.items seen)) c.in-Ok.ensures.opens
    c.relay_beside-relayed.result c.relay_beside-relayed.ensures.relays c.end_status.ensures.relayed c.end_status.ensures.nothing)
