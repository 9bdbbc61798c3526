use Rattle.std.proofs.Common.{ap, sym, ◌∙◌}
use Rattle.std.specs.Prelude.{find}
use Rattle.std.specs.List.{list_any}
use Rattle.tesla_buffer.specs.Held.{is_at}
use Rattle.tesla_state.specs.Stored.{Stored, stands_at}
use Rattle.tesla_state.proofs.Stored.{any_shown, found_shown, resting_shown}
use Rattle.tesla_state.proofs.store.Store.is_resting.Goals as goal

pub is_resting-requires : goal.is_resting-requires
is_resting-requires c = any_shown c.self.inside.chains c.args.place.0 c.self.inside.buffer.held ∙ ap (λ (s : Stored). list_any (stands_at c.args.place.0) s.held) c.self.view_is ∙ c.requires

pub returns : goal.returns
returns c =
    let shown = resting_shown c.self.inside.chains (find (is_at c.args.place.0) c.self.inside.buffer.held) c.is_resting.result c.is_resting.ensures in (
      shown.0,
      ap (λ (s : Stored). find (stands_at c.args.place.0) s.held) (sym c.self.view_is) ∙ found_shown c.self.inside.chains c.args.place.0 c.self.inside.buffer.held ∙ shown.1,
      shown.2,
    )
