use Rattle.std.proofs.Common.{◌∙◌, arith}
use Rattle.tesla_base.proofs.Prefixes.{bytes_from}
use Rattle.tesla_frame.proofs.Both.{is_found, frame_again}
use Rattle.tesla_frame.proofs.reading.read_frame.Goals as goal

pub returns-clause-found : goal.returns-clause-found
returns-clause-found c =
    is_found c.args.bytes.now c.frame.result (bytes_from c.args.bytes.now (λ i. omega (arith, c.type_inv.bytes i))) c.frame.ensures

pub returns-clause-only : goal.returns-clause-only
returns-clause-only c = λ frame is. c.frame.ensures ∙ frame_again c.args.bytes.now frame is
