use Rattle.tesla_walks.specs.ReachedIntervals.{index_at, is_reached}
use Rattle.tesla_state.specs.Stored.{is_idle}
use Rattle.tesla_walks.specs.Walking.{rows_of}
use Rattle.tesla_state.proofs.Sweeping.{Spanned}
use Rattle.tesla_state.proofs.store.Store.let_go.Given as goal

abbrev pub invariant-loop-interval : goal.invariant-loop-interval
invariant-loop-interval l = Spanned l.initial.self l.self (is_reached (index_at l.reach.indices) (rows_of l.walks)) (is_idle l.config l.tips) l.reach.low l.most l.reach.high

-- the intervals are looked at from the highest down
abbrev pub decreases-loop-interval : goal.decreases-loop-interval
decreases-loop-interval l = l.most
