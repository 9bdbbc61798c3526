use Rattle.std.proofs.Common.{ℕ, Bool, List, sym, subst, map}
use Rattle.std.specs.Prelude.{not, ◌&&◌}
use Rattle.tesla_base.specs.Members.{Distinct}
use Rattle.tesla_walks.specs.ReachedIntervals.{IsHighest, index_at, is_reached}
use Rattle.tesla_state.specs.Stored.{Placed, slot_of, in_span, is_idle}
use Rattle.tesla_walks.specs.Walking.{rows_of}
use Rattle.tesla_state.proofs.Stored.{distinct_kept}
use Rattle.tesla_state.proofs.Sweeping.{spanned_none, spanned_more, span_ends}
use Rattle.tesla_state.proofs.store.Store.let_go.Goals as goal

pub loop-interval-init : goal.loop-interval-init
loop-interval-init c = spanned_none c.args.self.now (is_reached (index_at c.args.reach.now.indices) (rows_of c.args.walks.now)) (is_idle c.args.config.now c.args.tips.now) c.args.reach.now.low c.args.reach.now.high

pub sweep-requires-clause-apart : goal.sweep-requires-clause-apart
sweep-requires-clause-apart c =
    let met : ℕ → Bool = is_reached (index_at c.args.reach.now.indices) (rows_of c.args.walks.now) in
    subst (λ (h : List Placed). Distinct (map slot_of h)) (sym c.loop-interval.invariant.held)
    (distinct_kept (λ x. not ((in_span c.loop-interval.most c.args.reach.now.high x && met x.holding.name.interval) && is_idle c.args.config.now c.args.tips.now x)) c.args.self.now.held c.requires.apart)

pub loop-interval-preserved : goal.loop-interval-preserved
loop-interval-preserved c =
    let met : ℕ → Bool = is_reached (index_at c.args.reach.now.indices) (rows_of c.args.walks.now) in
    spanned_more met (is_idle c.args.config.now c.args.tips.now) c.args.reach.now.low c.loop-interval.most c.args.reach.now.high c.args.self.now c.loop-interval.self c.sweep.new.self c.in-Some.interval
    (subst (IsHighest met c.args.reach.now.low c.loop-interval.most) c.in-Some.is c.highest_reached.ensures) c.loop-interval.invariant
    c.sweep.ensures.capacity c.sweep.ensures.reserved c.sweep.ensures.chains c.sweep.ensures.waiting c.sweep.ensures.given c.sweep.ensures.held

pub returns : goal.returns
returns c =
    let s = c.loop-interval.invariant in
    let met : ℕ → Bool = is_reached (index_at c.args.reach.now.indices) (rows_of c.args.walks.now) in
    record {
      capacity = s.capacity;
      reserved = s.reserved;
      chains = s.chains;
      held = span_ends met (is_idle c.args.config.now c.args.tips.now) c.args.reach.now.low c.loop-interval.most c.args.reach.now.high c.args.self.now c.loop-interval.self
          (subst (IsHighest met c.args.reach.now.low c.loop-interval.most) c.in_default.is c.highest_reached.ensures) s;
      waiting = s.waiting;
      given = s.given;
    }
