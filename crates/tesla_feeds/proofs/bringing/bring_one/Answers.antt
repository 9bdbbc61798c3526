use Rattle.std.proofs.Common.{refl}
use Rattle.tesla_feeds.proofs.Brought.{brings_next}
use Rattle.tesla_feeds.proofs.bringing.bring_one.Goals as goal

pub returns-clause-brings : goal.returns-clause-brings
returns-clause-brings g c =
    brings_next g.Y.LaterSenders.is_right c.args.feeds.now _ c.in-Some.sender.stream (g.Y.LaterSenders.left c.args.later.now) (g.Y.LaterSenders.left c.bring.new.self) c.remove-handover.result c.open.result
    c.in-Some.ensures.1 c.requires.later c.in-Some.ensures.2 c.requires.room c.remove-handover.ensures.value c.remove-handover.ensures.by_index.2 c.open.ensures.stands c.push_reserved.ensures.items c.push_reserved.ensures.capacity refl refl refl
