-- The one spelling of seeds.
use Rattle.std.specs.Prelude.{◌≡◌, ℕ, ◌≤◌, List, ◌++◌, length, codes}
use Rattle.std.specs.List.{flat_map, AllByRecursion}
use Rattle.hex.specs.Hex.{encode_lower, IsBytes}
use Rattle.tesla_base.specs.declared.names.Key.{Key}
use Rattle.tesla_commit.specs.SetupText.{line}

-- a key of 32 bytes
pub record IsKey (key : Key) : Type 0 where
  pub whole : length key.0 ≡ 32
  pub bytes : IsBytes key.0

-- the line of a seed
abbrev pub seed_line : Key → List ℕ
seed_line key = line (codes "seed") (encode_lower key.0)

-- the text of seeds
unfoldable pub seeds_text : List Key → List ℕ
seeds_text seeds = line (codes "tesla-seeds") (codes "1") ++ flat_map seed_line seeds

-- the bytes are the text of these seeds, which are so many
pub record IsSeeds (bytes : List ℕ) (count : ℕ) (seeds : List Key) : Type 0 where
  pub each : length seeds ≡ count
  pub keys : AllByRecursion IsKey seeds
  pub text : bytes ≡ seeds_text seeds
  pub short : length bytes ≤ 4096
