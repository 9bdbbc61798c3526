use Rattle.tesla_relay.proofs.Heard.{are_feeding, feeding_at, hears_end}
use Rattle.tesla_desk.specs.Links.{datagrams}
use Rattle.tesla_relay.proofs.hearing.hear_all.Goals as goal

pub close_all-requires-clause-feeding : goal.close_all-requires-clause-feeding
close_all-requires-clause-feeding g c κs within = λ i d inside. let hears = c.hear-end.ensures.hears in feeding_at c.hear-end.new.feeds i d inside (are_feeding (datagrams hears.taken) c.args.feeds.now c.hear-end.new.feeds hears.feeds)

pub returns-clause-hears : goal.returns-clause-hears
returns-clause-hears g c = record {
  hears = hears_end c.hear-end.result (g.K.Link.left c.args.link.now) (g.K.Link.left c.hear-end.new.link) c.args.feeds.now c.hear-end.new.feeds c.close_all.new.feeds c.hear-end.ensures.hears c.close_all.ensures c.hear-end.ensures.ended;
  cause = c.hear-end.ensures.cause;
  name_is = c.hear-end.ensures.name;
}
