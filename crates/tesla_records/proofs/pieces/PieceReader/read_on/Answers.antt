use Rattle.std.proofs.Common.{ℕ, ◌∙◌, ◌≤◌, List, ◌++◌, length, take, ap, arith}
use Rattle.tesla_records.specs.Pieces.{pending}
use Rattle.tesla_base.proofs.Lists.{part_put_behind}
use Rattle.tesla_records.proofs.StaysAhead.{got_reads}
use Rattle.tesla_records.proofs.pieces.PieceReader.read_on.Goals as goal

pub returns-in-Got-clause-reads : goal.returns-in-Got-clause-reads
returns-in-Got-clause-reads g c =
    let moved = c.move_to_start.new.self in
    let into = c.read-step.new.into in
    let n = c.in-Got.count in
    let within : moved.until ≤ length moved.piece = omega arith in
    let brings = c.in-Got.ensures.step in
    got_reads (pending c.args.self.now) _ into n _ _
    (part_put_behind moved.piece into moved.from moved.until _ n moved.ordered within brings.fits ∙ ap (λ (bytes : List ℕ). bytes ++ take n into) c.move_to_start.ensures.pending)
    brings
