use Rattle.std.proofs.Common.{◌∙◌, flat_map, sym, ap}
use Rattle.tesla_recorder.proofs.Texts.{all_texts}
use Rattle.tesla_recorder.proofs.tail.LastEntries.texts.Goals as goal

pub returns : goal.returns
returns c = c.as_slices.ensures ∙ sym (all_texts c.self.inside.lengths.items c.self.inside.bytes.items c.self.invariant.whole) ∙ ap (λ t. flat_map (λ text. text) t.texts) c.self.view_is
