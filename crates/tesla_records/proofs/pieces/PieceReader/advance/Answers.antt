use Rattle.std.proofs.Common.{ℕ, sym, arith, length-drop}
use Rattle.std.proofs.lemmas.List.{length-take}
use Rattle.tesla_base.proofs.Lists.{drop_part}
use Rattle.tesla_records.proofs.pieces.PieceReader.advance.Goals as goal

pub returns-clause-pending : goal.returns-clause-pending
returns-clause-pending c =
    let reader = c.args.self.now in
    sym (drop_part reader.piece reader.from reader.until c.args.count (omega (arith, length-take {A = ℕ}, length-drop {A = ℕ})))
