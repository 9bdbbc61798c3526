use Rattle.std.proofs.Common.{◌∙◌, List, ℕ, flat_map, ap}
use Rattle.tesla_recorder.specs.Recorded.{last_entries}
use Rattle.tesla_recorder.proofs.LastEntries.{all_spelled}
use Rattle.tesla_recorder.proofs.recorded.Recorded.texts.Goals as goal

pub returns-clause-spelled : goal.returns-clause-spelled
returns-clause-spelled g c h stands =
    c.texts.ensures ∙ ap (λ (r : _). flat_map (λ text. text) r.texts) c.self.view_is
    ∙ ap (λ (texts : List (List ℕ)). flat_map (λ text. text) texts) stands.last
    ∙ all_spelled (last_entries c.args.self.now.keep h)
