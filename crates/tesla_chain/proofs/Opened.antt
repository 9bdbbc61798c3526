-- A traversal that was just opened.
use Rattle.std.proofs.Common.{◌≡◌, ℕ, ◌+◌, ◌-◌, ◌*◌, ◌^◌, ◌<◌, ◌≤◌, List, length, refl, sym, ◌∙◌, ap, arith}
use Rattle.tesla_base.specs.declared.names.Key.{Key}
use Rattle.tesla_prf.specs.Keys.{next_of, walk}
use Rattle.tesla_prf.proofs.Walks.{walk_more}
use Rattle.tesla_chain.specs.Cost.{bits}
use Rattle.tesla_chain.specs.declared.level.Level.{Level}
use Rattle.tesla_chain.specs.Kept.{IsKept}
use Rattle.tesla_chain.specs.Levels.{Stand}
use Rattle.tesla_chain.specs.Traversal.{IsOpened}
use Rattle.tesla_chain.proofs.Digits.{few_levels, short_levels}

pub opened : (last : ℕ) (seed first commitment : Key) (levels : List Level) → 1 ≤ last → last ≤ 2 ^ 20 → 2 ^ length levels ≤ 2 * last - 1 → 2 * last - 1 < 2 * 2 ^ length levels → first ≡ walk seed (last - 1) → commitment ≡ next_of first → Stand seed 0 (last - 1) last levels → IsKept last 0 seed commitment levels
opened last seed first commitment levels some most low high is made stand =
    let whole : (last - 1) + 1 ≡ last = omega arith in
    record {
      most = most;
      within = omega arith;
      lowest = made ∙ ap next_of is ∙ sym (walk_more seed (last - 1)) ∙ ap (walk seed) whole;
      enough = omega arith;
      few = few_levels (length levels) last low;
      short = short_levels (length levels) last low most;
      stand = λ h. stand;
    }

-- the same, where there are so many levels
pub filled : (last depth size : ℕ) (seed first commitment : Key) (after : List Level) → 1 ≤ last → last ≤ 2 ^ 20 → 2 ^ depth ≤ 2 * last - 1 → 2 * last - 1 < 2 * 2 ^ depth → size ≡ depth → length after ≡ size → first ≡ walk seed (last - 1) → commitment ≡ next_of first → Stand seed 0 (last - 1) last after → IsKept last 0 seed commitment after
filled last depth size seed first commitment after some most low high is same key made stand =
    let count : depth ≡ length after = omega arith in
    opened last seed first commitment after some most (rw count at low) (rw count at high) key made stand

-- what a caller is told of it
pub is_opened : (seed commitment : Key) (last reserved : ℕ) (levels : List Level) → IsKept last 0 seed commitment levels → IsOpened seed last (record { seed = seed; last = last; given = 0; kept = 2 * length levels + 2; left = (last - 0) * bits last; reserved = reserved })
is_opened seed commitment last reserved levels is = record {
  seed = refl;
  last = refl;
  given = refl;
  kept = omega (arith, is.few);
  left = (let whole : last - 0 ≡ last = omega arith in rw whole (omega arith));
}
