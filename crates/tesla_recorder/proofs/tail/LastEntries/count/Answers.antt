use Rattle.std.proofs.Common.{◌∙◌, length, sym, ap}
use Rattle.tesla_recorder.proofs.Texts.{length_texts}
use Rattle.tesla_recorder.proofs.tail.LastEntries.count.Goals as goal

pub returns-clause-count : goal.returns-clause-count
returns-clause-count c = c.len.ensures.len ∙ sym (length_texts c.self.inside.lengths.items c.self.inside.bytes.items) ∙ ap (λ t. length t.texts) c.self.view_is
