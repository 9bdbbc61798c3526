use Rattle.std.proofs.Common.{sym, ap, ◌∙◌}
use Rattle.std.specs.List.{filter}
use Rattle.tesla_state.specs.Stored.{Stored, first_slot, is_unreleased_of}
use Rattle.tesla_state.proofs.Stored.{first_unreleased_shown}
use Rattle.tesla_state.proofs.store.Store.first_unreleased.Goals as goal

pub returns : goal.returns
returns c = c.first_unreleased.ensures.place ∙ sym (first_unreleased_shown c.self.inside.chains c.args.interval c.self.inside.buffer.held) ∙ ap (λ (s : Stored). first_slot (filter (is_unreleased_of c.args.interval) s.held)) c.self.view_is
