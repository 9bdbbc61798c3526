use Rattle.std.proofs.Common.{refl, arith}
use Rattle.tesla_records.specs.Pieces.{pending}
use Rattle.tesla_records.proofs.StaysAhead.{past_finds, more_finds, end_finds}
use Rattle.tesla_records.proofs.pieces.PieceReader.find_past.Goals as goal

pub returns-then-held-gt0-clause-finds : goal.returns-then-held-gt0-clause-finds
returns-then-held-gt0-clause-finds g c rest e =
    past_finds _ g.met.F.Format.is g.F.Format.kind_of c.args.self.now.place (pending c.args.self.now) _ rest c.requires.awaits c.requires.full (omega arith) e

pub returns-in-Got-clause-finds : goal.returns-in-Got-clause-finds
returns-in-Got-clause-finds g c rest e =
    more_finds _ g.met.F.Format.is g.F.Format.kind_of c.args.self.now.place _ (pending c.args.self.now) _ _ _ rest c.requires.awaits c.requires.full (omega arith) (omega arith) c.in-Got.ensures.step e

pub returns-in-End-clause-finds : goal.returns-in-End-clause-finds
returns-in-End-clause-finds g c rest e =
    end_finds _ g.F.Format.kind_of c.args.self.now.place (pending c.args.self.now) _ _ _ rest (omega arith) refl c.in-End.ensures.step e
