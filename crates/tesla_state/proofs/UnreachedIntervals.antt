-- The intervals that new keys aren't the first of their chains to reach.
use Rattle.std.proofs.Common.{◌≡◌, ℕ, ◌≤◌, Bool, false, ◌&&◌, ◌||◌, List, [], ◌∷◌, length, Option, None, Some, refl, sym, ap, ◌∙◌, arith}
use Rattle.std.specs.Prelude.{nat_lt, nat_le, All}
use Rattle.std.proofs.lemmas.Bool.{or_from}
use Rattle.std.proofs.lemmas.Bool.Decides.{nat_tests}
use Rattle.std.proofs.lemmas.List.Elements.{All-head, All-tail, All-weaker}
use Rattle.tesla_frame.specs.declared.row.KeyRow.{KeyRow}
use Rattle.tesla_keys.specs.Tip.{Tip}
use Rattle.tesla_walks.specs.ReachedIntervals.{AreIndices, IsHighest, index_at, index_in, is_first, is_reached}
use Rattle.tesla_walks.specs.Offered.{IsOfChains}
use Rattle.tesla_walks.specs.Tips.{tip_at}

-- two tests that are the same
pub highest_by : (met test : ℕ → Bool) (low high : ℕ) → ((n : ℕ) → met n ≡ test n) → (o : Option ℕ) → IsHighest met low high o → IsHighest test low high o
highest_by met test low high same None h = λ i above below. sym (same i) ∙ h i above below
highest_by met test low high same (Some n) h = (h.0, h.1, sym (same n) ∙ h.2, λ i above below. sym (same i) ∙ h.3 i above below)

-- ---- the newest keys

-- the indices of the newest keys tell which intervals are reached
pub reached_by : (tips : List Tip) (indices : List ℕ) (new : List KeyRow) (interval : ℕ) → AreIndices tips indices → All (IsOfChains (length tips)) new → is_reached (index_at indices) new interval ≡ is_reached (index_in tips) new interval
reached_by tips indices [] interval are chains = refl
reached_by tips indices (row ∷ rows) interval are chains =
    ap (λ (n : ℕ). (nat_lt n interval && nat_le interval row.index) || is_reached (index_at indices) rows interval) (are row.chain.0 (All-head (IsOfChains (length tips)) row rows chains))
    ∙ ap (λ b. is_first (index_in tips) interval row || b) (reached_by tips indices rows interval are (All-tail (IsOfChains (length tips)) row rows chains))

outside_first : (low high interval tip index : ℕ) → (nat_lt low interval && nat_le interval high) ≡ false → low ≤ tip → index ≤ high → (nat_lt tip interval && nat_le interval index) ≡ false
outside_first low high interval tip index outside above below = grind (arith, nat_tests)

-- no interval outside of those that new keys span is
pub outside_unreached : (tips : List Tip) (new : List KeyRow) (low high interval : ℕ) → All (λ row. low ≤ (tip_at tips row.chain.0).index) new → All (λ row. row.index ≤ high) new → (nat_lt low interval && nat_le interval high) ≡ false → is_reached (index_in tips) new interval ≡ false
outside_unreached tips [] low high interval above below outside = refl
outside_unreached tips (row ∷ rows) low high interval above below outside =
    or_from (is_first (index_in tips) interval row) (is_reached (index_in tips) rows interval)
    (outside_first low high interval (tip_at tips row.chain.0).index row.index outside (All-head (λ r. low ≤ (tip_at tips r.chain.0).index) row rows above) (All-head (λ r. r.index ≤ high) row rows below))
    (outside_unreached tips rows low high interval (All-tail (λ r. low ≤ (tip_at tips r.chain.0).index) row rows above) (All-tail (λ r. r.index ≤ high) row rows below) outside)

-- chains are at most eight
pub few_chains : (tips : List Tip) (new : List KeyRow) → length tips ≤ 8 → All (IsOfChains (length tips)) new → All (IsOfChains 8) new
few_chains tips new few chains = All-weaker (IsOfChains (length tips)) (IsOfChains 8) (λ row h. omega (arith, h, few)) new chains
