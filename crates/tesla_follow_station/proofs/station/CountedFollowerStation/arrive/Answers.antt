use Rattle.std.proofs.Common.{refl}
use Rattle.tesla_follow_station.proofs.Counts.{counts_stand, stands_counted}
use Rattle.tesla_follow_station.proofs.station.CountedFollowerStation.arrive.Goals as goal

pub count-requires : goal.count-requires
count-requires c =
    let (h, few, stood) = c.requires.stood in
    counts_stand _ _ _ _ _ h _ _ few c.self.view_is stood c.judge-verdict.ensures.config (c.judge-verdict.ensures.stands h) refl

pub returns-clause-stands : goal.returns-clause-stands
returns-clause-stands c h few stood =
    stands_counted _ _ _ _ _ _ h _ _ c.self.view_is stood c.judge-verdict.ensures.config (c.judge-verdict.ensures.stands h) refl c.count.ensures.stands
