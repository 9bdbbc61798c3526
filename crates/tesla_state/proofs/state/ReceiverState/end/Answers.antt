use Rattle.std.proofs.Common.{◌≡◌, refl, ap, ◌∙◌, ℕ, ◌+◌}
use Rattle.std.specs.Prelude.{slice_set, vec_capacity, true, Bool, List}
use Rattle.tesla_state.specs.State.{State}
use Rattle.tesla_state.specs.Kept.{reserved_in, state_in}
use Rattle.tesla_state.specs.Steps.{after_end}
use Rattle.tesla_state.proofs.state.ReceiverState.end.Goals as goal

ended_is : (s : State) (ingest : ℕ) → record s { ended = slice_set s.ended ingest true; calls = s.calls + 1 } ≡ after_end s ingest
unfolding after_end
ended_is s ingest = refl

pub returns-clause-state : goal.returns-clause-state
returns-clause-state c =
    let i = c.self.inside in
    let room : ℕ → ℕ = reserved_in (vec_capacity i.tables.tips) i.tables.store (vec_capacity i.tables.walks) (vec_capacity i.tables.batch) in
    ap (λ (flags : List Bool). state_in i.tables flags i.counts (i.calls + 1) (room (vec_capacity c.mark.new.flags))) c.mark.ensures.flags
    ∙ ap (λ (n : ℕ). state_in i.tables (slice_set i.ended.items c.args.ingest true) i.counts (i.calls + 1) (room n)) c.mark.ensures.capacity
    ∙ ended_is (state_in i.tables i.ended.items i.counts i.calls (room (vec_capacity i.ended))) c.args.ingest
    ∙ ap (λ (s : State). after_end s c.args.ingest) c.self.view_is
