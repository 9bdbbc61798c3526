-- Which seeds are drawn of a source, or why there are none.
use Rattle.std.specs.Prelude.{◌≡◌, ◌⊎◌, ℕ, ◌+◌, ◌*◌, ◌<◌, List, length, take, codes}
use Rattle.std.specs.List.{flat_map, AllByRecursion}
use Rattle.tesla_base.specs.declared.names.Key.{Key}
use Rattle.tesla_seeds.specs.Text.{IsKey}
use Rattle.tesla_seeds.specs.Weak.{IsFirstWeak, weak_name}
use Rattle.tesla_seeds.specs.declared.weak.WeakSeed.{WeakSeed}
use Rattle.tesla_front.specs.OutcomeView.{OutcomeView, Refused, Failed}
use Rattle.tesla_front.specs.Refusal.{refused_line}
use Rattle.tesla_front.specs.declared.fault.Fault.TheVariants as faults

-- the bytes of a seed
abbrev pub key_bytes : Key → List ℕ
key_bytes seed = seed.0

-- so many seeds of 32 bytes, which one behind another are the first bytes
pub record AreDrawn (count : ℕ) (bytes : List ℕ) (seeds : List Key) : Type 0 where
  pub each : length seeds ≡ count
  pub keys : AllByRecursion IsKey seeds
  pub first : flat_map key_bytes seeds ≡ take (32 * count) bytes

-- there are too few bytes: where they end is told
pub record EndsEarly (count : ℕ) (bytes : List ℕ) (outcome : OutcomeView) : Type 0 where
  pub few : length bytes < 32 * count
  pub told : outcome ≡ Refused 3 (refused_line (codes "random") (length bytes) (codes "Truncated"))

-- a seed that is drawn gives its chain no safety: the first such is told, with the line that it would have
pub record DrawsWeak (count : ℕ) (bytes : List ℕ) (outcome : OutcomeView) : Type 0 where
  pub seeds : List Key
  pub drawn : AreDrawn count bytes seeds
  pub chain : ℕ
  pub kind : WeakSeed
  pub weak : IsFirstWeak seeds chain kind
  pub told : outcome ≡ Refused 3 (refused_line (codes "seeds") (2 + chain) (weak_name kind))

-- why the first bytes give no seeds, or there was no memory
abbrev pub IsNoDraw : ℕ → List ℕ → OutcomeView → Type 0
IsNoDraw count bytes outcome = EndsEarly count bytes outcome ⊎ DrawsWeak count bytes outcome ⊎ (outcome ≡ Failed faults.NoMemory)
