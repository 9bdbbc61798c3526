use Rattle.std.proofs.Common.{arith}
use Rattle.tesla_recorder.proofs.LastEntries.{fits_kept, stands_shown}
use Rattle.tesla_recorder.proofs.recorded.RecordedStation.take.Goals as goal

pub put_take-requires : goal.put_take-requires
put_take-requires g c = fits_kept _ _ _ (g.met.V.Receiving.keeps_is _ _ _ c.take-reply.ensures.behind) (omega arith)

pub returns-clause-stands : goal.returns-clause-stands
returns-clause-stands g c h few stood =
    stands_shown g.V.Chronicle.stands _ _ _ _ _ h _ _ _ (g.met.V.Receiving.shown_is c.take-reply.result c.take-reply.new.into) c.self.view_is stood (λ before. c.take-reply.ensures.stands h few before) c.put_take.ensures
