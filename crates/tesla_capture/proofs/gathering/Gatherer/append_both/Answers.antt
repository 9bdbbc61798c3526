use Rattle.std.proofs.Common.{◌∙◌, ap, append_assoc, List, ℕ, ◌++◌}
use Rattle.tesla_capture.specs.Gathering.{gathered}
use Rattle.tesla_capture.proofs.gathering.Gatherer.append_both.Goals as goal

pub returns : goal.returns
returns c =
    c.append-2.ensures.bytes ∙ ap (λ (t : List ℕ). t ++ c.args.back.now) c.append.ensures.bytes ∙ append_assoc (gathered c.args.self.now) c.args.header.now c.args.back.now
