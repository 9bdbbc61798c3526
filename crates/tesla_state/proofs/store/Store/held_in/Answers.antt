use Rattle.std.proofs.Common.{sym, ap, ◌∙◌, length}
use Rattle.std.specs.List.{filter}
use Rattle.tesla_base.proofs.Filtered.{filter-map}
use Rattle.tesla_buffer.specs.Held.{is_of}
use Rattle.tesla_state.specs.Steps.{in_interval}
use Rattle.tesla_state.specs.Stored.{Stored, Placed, placed_in}
use Rattle.tesla_state.proofs.Stored.{length-shown}
use Rattle.tesla_state.proofs.store.Store.held_in.Goals as goal

pub returns : goal.returns
returns c =
    c.held_in.ensures
    ∙ sym (length-shown c.self.inside.chains (filter (is_of c.args.interval) c.self.inside.buffer.held))
    ∙ sym (ap length (filter-map (λ (x : Placed). in_interval c.args.interval x.holding) (placed_in c.self.inside.chains) c.self.inside.buffer.held))
    ∙ ap (λ (s : Stored). length (filter (λ (x : Placed). in_interval c.args.interval x.holding) s.held)) c.self.view_is
