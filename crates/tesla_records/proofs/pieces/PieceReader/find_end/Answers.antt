use Rattle.std.proofs.Common.{ℕ, ◌<◌, ◌+◌, length, ap, sym, arith, length-drop}
use Rattle.std.proofs.lemmas.List.{length-take}
use Rattle.tesla_records.specs.Grammar.{limit}
use Rattle.tesla_records.specs.Pieces.{pending}
use Rattle.tesla_records.proofs.StaysAhead.{cut_finds, end_finds}
use Rattle.tesla_records.proofs.pieces.PieceReader.find_end.Goals as goal

pub returns-in-End-clause-finds : goal.returns-in-End-clause-finds
returns-in-End-clause-finds g c rest e =
    let reads = c.in-End.ensures.reads in
    end_finds _ g.F.Format.kind_of c.read_on.new.self.place (pending c.args.self.now) _ _ _ rest (omega (arith, ap length (sym reads.0))) reads.0 reads.1 e

pub returns-in-End-2-clause-finds : goal.returns-in-End-2-clause-finds
returns-in-End-2-clause-finds g c rest e =
    let reads = c.in-End-2.ensures.reads in
    let some : 0 < length (pending c.args.self.now) = omega (arith, ap length reads.0) in
    let below : c.read_on.new.self.place + length (pending c.args.self.now) < limit = omega (arith, length-take {A = ℕ}, length-drop {A = ℕ}) in
    cut_finds _ g.met.F.Format.is g.F.Format.kind_of c.read_on.new.self.place (pending c.args.self.now) _ _ _ rest c.requires some below reads.0 reads.1 e
