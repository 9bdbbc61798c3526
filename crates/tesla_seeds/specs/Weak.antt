-- Which seeds are weak: all zeros, or one that a chain before has.
use Rattle.std.specs.Prelude.{◌≡◌, ℕ, ◌<◌, Option, Some, None, List, length, take, slice_get, codes, if◌then◌else◌}
use Rattle.std.specs.List.{list_any}
use Rattle.std.specs.Str.{bytes_eq}
use Rattle.std.proofs.Math.ListN.{replicate}
use Rattle.tesla_base.specs.declared.names.Key.{Key}
use Rattle.tesla_seeds.specs.declared.weak.WeakSeed.{WeakSeed}
use Rattle.tesla_seeds.specs.declared.weak.WeakSeed.TheVariants.{ZeroSeed, EqualSeeds}

-- the name of a weakness
abbrev pub weak_name : WeakSeed → List ℕ
weak_name ZeroSeed = codes "ZeroSeed"
weak_name EqualSeeds = codes "EqualSeeds"

-- why a seed gives no safety behind these: it has no byte but zeros, or it is one of them
abbrev pub weakness : List Key → Key → Option WeakSeed
weakness before seed =
    if bytes_eq seed.0 (replicate 32 0) then Some ZeroSeed
    else if list_any (λ (other : Key). bytes_eq seed.0 other.0) before then Some EqualSeeds
    else None

-- none of the first seeds gives no safety behind those before it
abbrev pub AreSoundBefore : List Key → ℕ → Type 0
AreSoundBefore seeds until = (chain : ℕ) (seed : Key) → chain < until → slice_get seeds chain ≡ Some seed → weakness (take chain seeds) seed ≡ None

-- none of the seeds is all zeros, and no two are the same
abbrev pub AreSound : List Key → Type 0
AreSound seeds = AreSoundBefore seeds (length seeds)

-- the seed of this chain is the first that gives no safety
pub record IsFirstWeak (seeds : List Key) (chain : ℕ) (kind : WeakSeed) : Type 0 where
  pub seed : Key
  pub there : slice_get seeds chain ≡ Some seed
  pub why : weakness (take chain seeds) seed ≡ Some kind
  pub before : AreSoundBefore seeds chain
