use Rattle.tesla_follow_station.proofs.Counts.{counts_stand, stands_counted, stands_same}
use Rattle.tesla_follow_station.proofs.station.CountedFollowerStation.take.Goals as goal

pub count-requires : goal.count-requires
count-requires c =
    let (h, few, stood) = c.requires in
    counts_stand _ _ _ _ _ h _ _ few c.self.view_is stood c.take-taken.ensures.config
    (λ before. stands_same _ h _ _ (c.take-taken.ensures.answer h before) (c.take-taken.ensures.stands h before)) (c.chain_of.ensures c.args.releaser c.take-taken.new.into)

pub returns-clause-stands : goal.returns-clause-stands
returns-clause-stands c h few stood =
    stands_counted _ _ _ _ _ _ h _ _ c.self.view_is stood c.take-taken.ensures.config
    (λ before. stands_same _ h _ _ (c.take-taken.ensures.answer h before) (c.take-taken.ensures.stands h before)) (c.chain_of.ensures c.args.releaser c.take-taken.new.into) c.count.ensures.stands
