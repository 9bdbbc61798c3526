use Rattle.std.proofs.Common.{sym, ap, ◌∙◌}
use Rattle.std.specs.List.{list_any}
use Rattle.tesla_state.specs.Stored.{Stored, next_slot, stands_at}
use Rattle.tesla_state.proofs.Stored.{any_shown, next_shown}
use Rattle.tesla_state.proofs.store.Store.next_of.Goals as goal

pub next_of-requires : goal.next_of-requires
next_of-requires c = any_shown c.self.inside.chains c.args.place.0 c.self.inside.buffer.held ∙ ap (λ (s : Stored). list_any (stands_at c.args.place.0) s.held) c.self.view_is ∙ c.requires

pub returns : goal.returns
returns c = c.next_of.ensures.place ∙ sym (next_shown c.self.inside.chains c.args.place.0 c.self.inside.buffer.held) ∙ ap (λ (s : Stored). next_slot c.args.place.0 s.held) c.self.view_is
