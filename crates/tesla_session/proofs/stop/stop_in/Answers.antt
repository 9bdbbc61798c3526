use Rattle.std.proofs.Common.{Bool, ◌||◌, ◌∙◌, ap}
use Rattle.tesla_shared.specs.declared.draining.SinkEnd.TheVariants as sink_ends
use Rattle.tesla_shared.specs.declared.ingesting.LinkEnd.TheVariants as link_ends
use Rattle.tesla_session.specs.Session.{any_link_ended, any_sink_ended, stop_by}
use Rattle.tesla_session.proofs.Stopping.{stops_lists}
use Rattle.tesla_session.proofs.stop.stop_in.Goals as goal

pub returns : goal.returns
returns g c =
    let links = c.args.links.now in
    let sinks = c.args.sinks.now in
    c.stop_where.ensures
    ∙ ap (λ (b : Bool). stop_by b c.any_sink-write.result (c.any_link-link_spent.result || c.any_sink-sink_spent.result)) c.any_link-read.ensures
    ∙ ap (λ (b : Bool). stop_by (any_link_ended link_ends.Failed links) b (c.any_link-link_spent.result || c.any_sink-sink_spent.result)) c.any_sink-write.ensures
    ∙ ap (λ (b : Bool). stop_by (any_link_ended link_ends.Failed links) (any_sink_ended sink_ends.Failed sinks) (b || c.any_sink-sink_spent.result)) c.any_link-link_spent.ensures
    ∙ ap (λ (b : Bool). stop_by (any_link_ended link_ends.Failed links) (any_sink_ended sink_ends.Failed sinks) (any_link_ended link_ends.Spent links || b)) c.any_sink-sink_spent.ensures
    ∙ stops_lists links sinks
