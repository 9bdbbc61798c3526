use Rattle.std.proofs.Common.{◌∙◌, take, sym, ap, arith}
use Rattle.tesla_records.specs.Steps.{Progress, pending}
use Rattle.tesla_records.specs.Pieces as pieces
use Rattle.tesla_records.proofs.StepGives.{head_takes}
use Rattle.tesla_records.proofs.reader.RecordsReader.take_head.Goals as goal

pub advance-requires : goal.advance-requires
advance-requires g c =
    let told = ap (λ (p : Progress _). g.F.Format.grammar.parse_head (pending p)) c.self.view_is ∙ c.requires in
    let takes = head_takes g.F.Format.grammar g.met.F.Format.is (pieces.pending c.self.inside.pieces) (g.F.Format.head_of c.args.head) c.pending-pending.ensures.bytes told in
    omega (arith, c.head_size.ensures, takes.1)

pub returns-clause-limits : goal.returns-clause-limits
returns-clause-limits g c =
    let told = ap (λ (p : Progress _). g.F.Format.grammar.parse_head (pending p)) c.self.view_is ∙ c.requires in
    (head_takes g.F.Format.grammar g.met.F.Format.is (pieces.pending c.self.inside.pieces) (g.F.Format.head_of c.args.head) c.pending-pending.ensures.bytes told).0

pub returns-clause-spelled : goal.returns-clause-spelled
returns-clause-spelled g c =
    let told = ap (λ (p : Progress _). g.F.Format.grammar.parse_head (pending p)) c.self.view_is ∙ c.requires in
    sym (ap (λ (p : Progress _). take g.F.Format.grammar.head_size (pending p)) c.self.view_is)
    ∙ (head_takes g.F.Format.grammar g.met.F.Format.is (pieces.pending c.self.inside.pieces) (g.F.Format.head_of c.args.head) c.pending-pending.ensures.bytes told).2
