use Rattle.std.proofs.Common.{ap, rules}
use Rattle.tesla_desk.specs.Clocks.{Ticks}
use Rattle.tesla_receiver.specs.declared.history.Arrival.{Arrival}
use Rattle.tesla_shared.proofs.Hearing.{hears_one}
use Rattle.tesla_shared.proofs.ingesting.hear_in_turn.Goals as goal

pub returns-clause-hears : goal.returns-clause-hears
returns-clause-hears g c =
    let act = c.take_turn-verdict.new.act in
    let did = c.take_turn-verdict.ensures.act in
    let arrival : Arrival g.row.V-Verdict.Denot = record { ingest = act.ingest; reading = c.take_turn-verdict.result.reading; bytes = act.bytes.now; verdict = c.take_turn-verdict.result.verdict } in
    let ticks : Ticks (g.C.Clock.told c.args.clock.now) (g.C.Clock.told _) c.take_turn-verdict.result.reading = search rules in
    hears_one _ _ _ _ _ _ arrival c.take_turn-verdict.ensures.history.made did.0 (ap (λ b. b.now) did.1) ticks
