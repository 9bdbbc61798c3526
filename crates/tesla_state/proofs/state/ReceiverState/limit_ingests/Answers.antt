use Rattle.std.proofs.Common.{◌≡◌, refl, ap, ◌∙◌, ℕ}
use Rattle.std.specs.Prelude.{take, vec_capacity, Bool, List}
use Rattle.tesla_state.specs.State.{State}
use Rattle.tesla_state.specs.Kept.{reserved_in, state_in, state_of}
use Rattle.tesla_state.specs.Steps.{after_limit, with_ingests}
use Rattle.tesla_state.proofs.state.ReceiverState.limit_ingests.Goals as goal

limit_is : (s : State) (ingests : ℕ) → record s { config = with_ingests s.config ingests; ended = take ingests s.ended } ≡ after_limit s ingests
unfolding after_limit
limit_is s ingests = refl

pub returns-clause-state : goal.returns-clause-state
returns-clause-state c =
    let i = c.self.inside in
    let room : ℕ → ℕ = reserved_in (vec_capacity i.tables.tips) i.tables.store (vec_capacity i.tables.walks) (vec_capacity i.tables.batch) in
    ap (λ (flags : List Bool). state_of (with_ingests i.tables.config c.args.ingests) i.tables.tips.items i.tables.store flags i.counts i.calls (room (vec_capacity c.truncate.new.self))) c.truncate.ensures.items
    ∙ ap (λ (n : ℕ). state_of (with_ingests i.tables.config c.args.ingests) i.tables.tips.items i.tables.store (take c.args.ingests i.ended.items) i.counts i.calls (room n)) c.truncate.ensures.capacity
    ∙ limit_is (state_in i.tables i.ended.items i.counts i.calls (room (vec_capacity i.ended))) c.args.ingests
    ∙ ap (λ (s : State). after_limit s c.args.ingests) c.self.view_is
