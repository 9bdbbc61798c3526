use Rattle.std.proofs.Common.{sym, ap, ◌∙◌}
use Rattle.std.specs.List.{list_any}
use Rattle.tesla_state.specs.Stored.{Stored, is_unreleased_at, next_unreleased}
use Rattle.tesla_state.proofs.Stored.{any_unreleased_shown, next_unreleased_shown}
use Rattle.tesla_state.proofs.store.Store.next_unreleased.Goals as goal

pub next_unreleased-requires : goal.next_unreleased-requires
next_unreleased-requires c = any_unreleased_shown c.self.inside.chains c.args.place.0 c.self.inside.buffer.held ∙ ap (λ (s : Stored). list_any (is_unreleased_at c.args.place.0) s.held) c.self.view_is ∙ c.requires

pub returns : goal.returns
returns c = c.next_unreleased.ensures.place ∙ sym (next_unreleased_shown c.self.inside.chains c.args.place.0 c.self.inside.buffer.held) ∙ ap (λ (s : Stored). next_unreleased c.args.place.0 s.held) c.self.view_is
