use Rattle.std.proofs.Common.{arith}
use Rattle.tesla_follow_station.proofs.Counts.{stands_same}
use Rattle.tesla_follow_station.proofs.station.judge.Goals as goal

pub arrive-requires : goal.arrive-requires
arrive-requires g c =
    let (h, few, stood) = c.requires.stood in
    let calls = stood.calls in
    omega (arith, few, calls)

pub returns-clause-stands : goal.returns-clause-stands
returns-clause-stands g c h stood = stands_same c.arrive.new.self h _ _ (c.arrive.ensures.answer h stood) (c.arrive.ensures.stands h stood)
