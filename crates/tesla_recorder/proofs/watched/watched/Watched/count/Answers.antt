use Rattle.std.proofs.Common.{◌≡◌, ◌+◌, ◌<◌, ◌^◌, [], ◌∷◌, ◌++◌, ◌∙◌, ℕ, List, Option, cond, get_or, map, sym, ap, subst, arith}
use Rattle.std.specs.List.{range_with_len}
use Rattle.tesla_counters.specs.Counts.{NoneFalls}
use Rattle.tesla_state.specs.declared.report.Report.{Report}
use Rattle.tesla_recorder.proofs.watched.Counted.{counts_few, counts_more, counts_rise}
use Rattle.tesla_recorder.specs.watched.Chains.{is_chain}
use Rattle.tesla_recorder.specs.watched.Watched.{WatchedState, counts_in, counts_of}
use Rattle.tesla_recorder.proofs.watched.watched.Watched.count.Goals as goal

-- the counts with a report by which they are those of a history
counted : (report now : Report) (before : List ℕ) (chain : Option ℕ) → report ≡ now → counts_in report ++ map (λ k. cond (is_chain k chain) (get_or before (11 + k) 0 + 1) (get_or before (11 + k) 0)) (range_with_len 0 8) ≡ counts_in now ++ map (λ k. cond (is_chain k chain) (get_or before (11 + k) 0 + 1) (get_or before (11 + k) 0)) (range_with_len 0 8)
counted report now before chain same = ap (λ (r : Report). counts_in r ++ map (λ k. cond (is_chain k chain) (get_or before (11 + k) 0 + 1) (get_or before (11 + k) 0)) (range_with_len 0 8)) same

pub counts_after-counts-requires : goal.counts_after-counts-requires
counts_after-counts-requires g c k =
    let (h, entry, few, stood, counts_are, is) = c.requires in
    let was : c.self.inside.counts.counts ≡ counts_of h = ap (λ (s : WatchedState _). s.counts) c.self.view_is ∙ counts_are in
    subst (λ (counts : List ℕ). get_or counts (11 + k) 0 + 1 < 2 ^ 64) (sym (c.counts.ensures ∙ was)) (omega (arith, few, counts_few h k))

pub set-requires : goal.set-requires
set-requires g c =
    let (h, entry, few, stood, counts_are, is) = c.requires in
    let same = sym c.self.view_is in
    let now = subst (λ (s : WatchedState _). g.V.Chronicle.stands s.station (h ++ entry ∷ [])) same stood in
    let was : c.self.inside.counts.counts ≡ counts_of h = ap (λ (s : WatchedState _). s.counts) c.self.view_is ∙ counts_are in
    let made = c.counts_after-counts.ensures ∙ counted _ _ c.counts.result.now c.args.chain (c.report.ensures _ now) ∙ counts_more h entry c.counts.result.now c.args.chain (c.counts.ensures ∙ was) is in (
      omega arith,
      (
        omega arith,
        subst (λ (counts : List ℕ). NoneFalls counts c.counts_after-counts.result) (sym was)
            (subst (λ (counts : List ℕ). NoneFalls (counts_of h) counts) (sym made) (counts_rise h entry)),
      ),
    )

pub returns-clause-stands : goal.returns-clause-stands
returns-clause-stands g c h entry stood counts_are is =
    let stands = subst (λ (s : WatchedState _). g.V.Chronicle.stands s.station (h ++ entry ∷ [])) (sym c.self.view_is) stood in
    let was : c.self.inside.counts.counts ≡ counts_of h = ap (λ (s : WatchedState _). s.counts) c.self.view_is ∙ counts_are in
    record {
      stood = stands;
      counted = c.set.ensures.counts ∙ c.counts_after-counts.ensures ∙ counted _ _ c.counts.result.now c.args.chain (c.report.ensures _ stands) ∙ counts_more h entry c.counts.result.now c.args.chain (c.counts.ensures ∙ was) is;
    }
