-- The one spelling of a setup.
use Rattle.std.specs.Prelude.{◌≡◌, ℕ, ◌≤◌, List, [], ◌∷◌, ◌++◌, length, codes, decimal}
use Rattle.std.specs.Int.{w64, to_be_bytes}
use Rattle.std.specs.List.{flat_map, AllByRecursion}
use Rattle.hex.specs.Hex.{encode_lower, IsBytes}
use Rattle.tesla_base.specs.declared.version.Version.{Version}
use Rattle.tesla_base.specs.declared.version.Version.TheVariants.{One, Two}
use Rattle.tesla_commit.specs.Parts.{Parts, IsSetupOf}
use Rattle.tesla_commit.specs.declared.chain_row.ChainRow.{ChainRow}

-- a name, a space, a value and an LF
abbrev pub line : List ℕ → List ℕ → List ℕ
line name value = name ++ 32 ∷ value ++ 10 ∷ []

-- the values of a chain, with spaces between
abbrev pub chain_values : ChainRow → List ℕ
chain_values row = decimal row.delay ++ 32 ∷ decimal row.index ++ 32 ∷ encode_lower row.key.0

-- the line of a chain
abbrev pub chain_line : ChainRow → List ℕ
chain_line row = line (codes "chain") (chain_values row)

-- the number of a version, as line 1 has it
abbrev pub version_text : Version → List ℕ
version_text One = codes "1"
version_text Two = codes "2"

-- the line of the tags' length, which version 1 doesn't have
abbrev pub tag_line : Version → ℕ → List ℕ
tag_line One size = []
tag_line Two size = line (codes "tag") (decimal size)

-- the text of a setup
unfoldable pub setup_text : Parts → List ℕ
setup_text parts =
    line (codes "tesla") (version_text parts.version)
    ++ line (codes "stream") (encode_lower (to_be_bytes w64 parts.stream.0))
    ++ line (codes "start") (decimal parts.times.start)
    ++ line (codes "interval") (decimal parts.times.length)
    ++ line (codes "last") (decimal parts.times.last)
    ++ tag_line parts.version parts.tag_length
    ++ flat_map chain_line parts.rows

-- a key of 32 bytes
pub record HasKey (row : ChainRow) : Type 0 where
  pub whole : length row.key.0 ≡ 32
  pub bytes : IsBytes row.key.0

-- the bytes are the text of that setup
pub record IsSetup (bytes : List ℕ) (parts : Parts) : Type 0 where
  pub limits : IsSetupOf parts
  pub keys : AllByRecursion HasKey parts.rows
  pub text : bytes ≡ setup_text parts
  pub short : length bytes ≤ 4096
