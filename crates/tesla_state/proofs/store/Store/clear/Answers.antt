use Rattle.std.proofs.Common.{◌≡◌, ap, map, sym, ◌∙◌}
use Rattle.std.specs.Prelude.{count_by}
use Rattle.tesla_state.specs.Steps.{is_untaken}
use Rattle.tesla_state.specs.Stored.{Stored, holding_at}
use Rattle.tesla_state.proofs.Untaken.{untaken_are}
use Rattle.tesla_state.proofs.store.Store.clear.Goals as goal

pub returns-clause-dropped : goal.returns-clause-dropped
returns-clause-dropped c =
    let i = c.self.inside in
    c.clear-dropped.ensures.dropped ∙ untaken_are i.chains i.buffer.held ∙ ap (λ (s : Stored). count_by is_untaken (map holding_at s.held)) c.self.view_is
