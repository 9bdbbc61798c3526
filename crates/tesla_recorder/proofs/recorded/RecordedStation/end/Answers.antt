use Rattle.tesla_recorder.proofs.LastEntries.{stands_more}
use Rattle.tesla_recorder.proofs.recorded.RecordedStation.end.Goals as goal

pub returns-clause-stands : goal.returns-clause-stands
returns-clause-stands g c h few stood =
    stands_more g.V.Chronicle.stands _ _ _ _ _ h _ c.self.view_is stood (λ before. c.end.ensures.stands h few before) c.put_end.ensures
