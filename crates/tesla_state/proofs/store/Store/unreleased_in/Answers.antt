use Rattle.std.proofs.Common.{sym, ap, ◌∙◌, length}
use Rattle.std.specs.List.{filter}
use Rattle.tesla_base.proofs.Filtered.{filter-map}
use Rattle.tesla_buffer.specs.Held as buffer
use Rattle.tesla_state.specs.Stored.{Stored, is_unreleased_of, placed_in}
use Rattle.tesla_state.proofs.Stored.{length-shown}
use Rattle.tesla_state.proofs.store.Store.unreleased_in.Goals as goal

pub returns : goal.returns
returns c =
    c.unreleased_in.ensures
    ∙ sym (length-shown c.self.inside.chains (filter (buffer.is_unreleased_of c.args.interval) c.self.inside.buffer.held))
    ∙ sym (ap length (filter-map (is_unreleased_of c.args.interval) (placed_in c.self.inside.chains) c.self.inside.buffer.held))
    ∙ ap (λ (s : Stored). length (filter (is_unreleased_of c.args.interval) s.held)) c.self.view_is
