use Rattle.std.proofs.Common.{map, ◌∙◌}
use Rattle.tesla_session.specs.Session.{SeenLink, SeenSink}
use Rattle.tesla_session.proofs.Sessions.{closes_both, closes_same, of_back, of_prefix}
use Rattle.tesla_session.proofs.engine.close_workers.Goals as goal

pub close_each-requires-clause-others : goal.close_each-requires-clause-others
close_each-requires-clause-others g c κs within =
    let session = c.args.session in of_back session.turn (map SeenLink session.links.items) (map SeenSink session.sinks.items) c.requires.others

pub close_each-requires-2-clause-own : goal.close_each-requires-2-clause-own
close_each-requires-2-clause-own g c κs within =
    (closes_same (map SeenSink c.args.session.sinks.items) (g.D.Environment.told c.args.desk.now) (g.D.Environment.told c.close_each.new.desk) c.args.session.first c.close_each.new.first c.close_each.ensures.closes).turn ∙ c.requires.own

pub close_each-requires-2-clause-first : goal.close_each-requires-2-clause-first
close_each-requires-2-clause-first g c κs within =
    (closes_same (map SeenSink c.args.session.sinks.items) (g.D.Environment.told c.args.desk.now) (g.D.Environment.told c.close_each.new.desk) c.args.session.first c.close_each.new.first c.close_each.ensures.closes).number ∙ c.requires.first

pub close_each-requires-2-clause-others : goal.close_each-requires-2-clause-others
close_each-requires-2-clause-others g c κs within =
    let session = c.args.session in of_prefix session.turn (map SeenLink session.links.items) (map SeenSink session.sinks.items) c.requires.others

pub returns-clause-closes : goal.returns-clause-closes
returns-clause-closes g c =
    closes_both (map SeenLink c.args.session.links.items) (map SeenSink c.args.session.sinks.items) (g.D.Environment.told c.args.desk.now) (g.D.Environment.told c.close_each.new.desk) (g.D.Environment.told c.close_each-2.new.desk)
    c.args.session.first c.close_each.new.first c.close_each-2.new.first c.close_each.ensures.closes c.close_each-2.ensures.closes
