-- The versions of the formats of setups and frames, and what each allows.
use Rattle.std.specs.Prelude.{◌≡◌, ℕ, zero, suc, ◌≤◌, Option, Some, None, unwrap_or}
use Rattle.tesla_base.specs.declared.version.Version.{Version}
use Rattle.tesla_base.specs.declared.version.Version.TheVariants.{One, Two}

-- the number by which setups and frames name a version
abbrev pub number_of : Version → ℕ
number_of One = 1
number_of Two = 2

-- the version that has this number
abbrev pub version_of : ℕ → Option Version
version_of (suc zero) = Some One
version_of (suc (suc zero)) = Some Two
version_of _ = None

-- the same where the number is known to be that of a version
abbrev pub version_named : ℕ → Version
version_named number = unwrap_or (version_of number) One

abbrev pub IsVersion : ℕ → Type 0
IsVersion number = number_of (version_named number) ≡ number

-- the most key chains that a stream has
abbrev pub most_chains : Version → ℕ
most_chains One = 4
most_chains Two = 8

-- the fewest bytes of a tag
abbrev pub shortest_tag : Version → ℕ
shortest_tag One = 16
shortest_tag Two = 10

-- the most bytes of a tag
abbrev pub longest_tag : Version → ℕ
longest_tag One = 16
longest_tag Two = 32

-- a tag may have so many bytes
pub record IsTagLength (version : Version) (size : ℕ) : Type 0 where
  pub shortest : shortest_tag version ≤ size
  pub longest : size ≤ longest_tag version
