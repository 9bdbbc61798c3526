use Rattle.std.proofs.Common.{sym, ap, subst, ◌∙◌}
use Rattle.std.specs.Prelude.{find, option_map, Some}
use Rattle.std.specs.List.{list_any}
use Rattle.tesla_buffer.specs.Held.{is_at}
use Rattle.tesla_walks.specs.ItemShown.{holding_in, IsItem}
use Rattle.tesla_state.specs.Stored.{Stored, placed_in, stands_at, IsItemOf}
use Rattle.tesla_state.proofs.Stored.{any_shown, found_shown, found_passes}
use Rattle.tesla_state.proofs.store.Store.item.Goals as goal

pub item-requires : goal.item-requires
item-requires c = any_shown c.self.inside.chains c.args.place.0 c.self.inside.buffer.held ∙ ap (λ (s : Stored). list_any (stands_at c.args.place.0) s.held) c.self.view_is ∙ c.requires

pub returns-clause-item : goal.returns-clause-item
returns-clause-item c =
    ap (λ (s : Stored). find (stands_at c.args.place.0) s.held) (sym c.self.view_is)
    ∙ found_shown c.self.inside.chains c.args.place.0 c.self.inside.buffer.held
    ∙ ap (option_map (placed_in c.self.inside.chains)) c.item.ensures.item
    ∙ ap (λ (s : Stored). Some (record { place = c.args.place.0; holding = holding_in s.chains c.item.result.now })) c.self.view_is

pub returns-clause-room : goal.returns-clause-room
returns-clause-room c =
    subst (λ (s : Stored). IsItem s.chains c.item.result.now) c.self.view_is
    (found_passes (IsItemOf c.self.inside.chains) (is_at c.args.place.0) c.self.inside.buffer.held (record { place = c.args.place.0; item = c.item.result.now }) c.self.invariant.items c.item.ensures.item)
