use Rattle.std.proofs.Common.{◌≡◌, true, false, sym, ap, ◌∙◌, refl, List, Option, Some, None}
use Rattle.std.specs.Prelude.{◌&&◌, is_some, MatchOption}
use Rattle.std.specs.List.{list_any}
use Rattle.std.proofs.lemmas.Bool.{and_parts}
use Rattle.tesla_base.specs.declared.names.Name.{Name}
use Rattle.tesla_base.specs.declared.names.Place.{Place}
use Rattle.tesla_buffer.specs.Held.{Held, is_at, is_released_as}
use Rattle.tesla_state.specs.Steps.{is_named_so}
use Rattle.tesla_state.specs.Stored.{Stored, Placed, placed_in}
use Rattle.tesla_state.proofs.Marked.{any_mapped, any_weaker}
use Rattle.tesla_state.proofs.store.Store.is_released.Goals as goal

told : (name : Name) (held : List Held) (o : Option Place) → MatchOption o (list_any (is_released_as name) held ≡ false) (λ p. list_any (λ h. is_at p.0 h && is_released_as name h) held ≡ true) → is_some o ≡ list_any (is_released_as name) held
told name held None h = sym h
told name held (Some p) h = sym (any_weaker (λ x. is_at p.0 x && is_released_as name x) (is_released_as name) (λ x e. (and_parts (is_at p.0 x) (is_released_as name x) e).1) held h)

pub returns : goal.returns
returns c =
    c.is_some.ensures ∙ told c.args.name c.self.inside.buffer.held c.released_named.result c.released_named.ensures.place
    ∙ sym (any_mapped (λ (x : Placed). is_named_so c.args.name x.holding) (is_released_as c.args.name) (placed_in c.self.inside.chains) (λ x. refl) c.self.inside.buffer.held)
    ∙ ap (λ (s : Stored). list_any (λ (x : Placed). is_named_so c.args.name x.holding) s.held) c.self.view_is
