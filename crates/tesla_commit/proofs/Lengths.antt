-- How long the text of a setup is at most, so that it is one.
use Rattle.std.proofs.Common.{◌≡◌, ℕ, ◌+◌, ◌*◌, ◌^◌, ◌<◌, ◌≤◌, List, [], ◌∷◌, ◌++◌, length, refl, length-append, arith}
use Rattle.std.specs.Prelude.{codes, decimal}
use Rattle.std.specs.Int.{w64, to_be_bytes}
use Rattle.std.specs.List.{flat_map, AllByRecursion}
use Rattle.std.proofs.lemmas.Fmt.{length-decimal-le}
use Rattle.hex.specs.Hex.{encode_lower, lower_digits}
use Rattle.hex.proofs.HexLemmas.{length-encode_with}
use Rattle.tesla_base.specs.Version.{most_chains, IsTagLength}
use Rattle.tesla_base.specs.declared.version.Version.{Version}
use Rattle.tesla_base.specs.declared.version.Version.TheVariants.{One, Two}
use Rattle.tesla_commit.specs.Parts.{Parts, IsRow, IsSetupOf}
use Rattle.tesla_commit.specs.SetupText.{line, version_text, tag_line, chain_values, chain_line, setup_text, HasKey, IsSetup}
use Rattle.tesla_commit.specs.declared.chain_row.ChainRow.{ChainRow}

-- a number of 64 bits has at most 20 digits
short_number : (n : ℕ) → n < 2 ^ 64 → length (decimal n) ≤ 20
short_number n fits = length-decimal-le 20 n (omega arith) (omega arith) fits

-- two digits a byte
pub hex_length : (bytes : List ℕ) → length (encode_lower bytes) ≡ 2 * length bytes
hex_length bytes = length-encode_with lower_digits bytes

-- a line has a space and an LF beside its name and its value
pub line_length : (name value : List ℕ) → length (line name value) ≡ length name + length value + 2
line_length name value = rw (length-append, length-append) (omega arith)

-- two spaces stand between the values of a chain
values_length : (row : ChainRow) → length (chain_values row) ≡ length (decimal row.delay) + length (decimal row.index) + length (encode_lower row.key.0) + 2
values_length row = rw (length-append, length-append) (omega arith)

-- a chain has at most 113 bytes
short_chain : (row : ChainRow) → row.delay < 2 ^ 64 → row.index < 2 ^ 64 → HasKey row → length (chain_line row) ≤ 113
short_chain row delay index key =
    omega (arith, line_length (codes "chain") (chain_values row), values_length row, short_number row.delay delay, short_number row.index index, hex_length row.key.0, key.whole)

short_chains : (last : ℕ) (rows : List ChainRow) → last < 2 ^ 64 → AllByRecursion (IsRow last) rows → AllByRecursion HasKey rows → length (flat_map chain_line rows) ≤ 113 * length rows
short_chains last [] fits each keys = omega arith
short_chains last (row ∷ rows) fits each keys =
    let longest = each.0.longest in
    let within = each.0.within in
    let one = short_chain row (omega arith) (omega arith) keys.0 in
    let more = short_chains last rows fits each.1 keys.1 in
    rw length-append (omega arith)

version_length : (version : Version) → length (version_text version) ≡ 1
version_length One = refl
version_length Two = refl

most_chains_bound : (version : Version) → most_chains version ≤ 8
most_chains_bound One = omega arith
most_chains_bound Two = omega arith

-- the line of the length of tags has at most 25 bytes
short_tag : (version : Version) (size : ℕ) → IsTagLength version size → length (tag_line version size) ≤ 25
short_tag One size limits = omega arith
short_tag Two size limits =
    let longest = limits.longest in
    omega (arith, line_length (codes "tag") (decimal size), short_number size (omega arith))

seven_lengths : (a b c d e f g : List ℕ) → length ((((((a ++ b) ++ c) ++ d) ++ e) ++ f) ++ g) ≡ length a + length b + length c + length d + length e + length f + length g
seven_lengths a b c d e f g = simp length-append

short_text : (setup : Parts) → IsSetupOf setup → AllByRecursion HasKey setup.rows → length (setup_text setup) ≤ 4096
unfolding setup_text
short_text setup limits keys =
    let longest = limits.times.longest in
    let most = limits.times.most in
    let few = limits.few in
    let stream = encode_lower (to_be_bytes w64 setup.stream.0) in
    let start = decimal setup.times.start in
    let span = decimal setup.times.length in
    let last = decimal setup.times.last in
    let version = version_text setup.version in
    let tag = tag_line setup.version setup.tag_length in
    let digit = version_length setup.version in
    let allowed = most_chains_bound setup.version in
    let one = line_length (codes "tesla") version in
    let two = line_length (codes "stream") stream in
    let three = line_length (codes "start") start in
    let four = line_length (codes "interval") span in
    let five = line_length (codes "last") last in
    let six = short_tag setup.version setup.tag_length limits.tag_length in
    let eight = hex_length (to_be_bytes w64 setup.stream.0) in
    let starts = short_number setup.times.start limits.start in
    let spans = short_number setup.times.length (omega arith) in
    let lasts = short_number setup.times.last (omega arith) in
    let chains = short_chains setup.times.last setup.rows (omega arith) limits.each keys in
    rw (seven_lengths (line (codes "tesla") version) (line (codes "stream") stream) (line (codes "start") start) (line (codes "interval") span) (line (codes "last") last) tag (flat_map chain_line setup.rows)) (omega arith)

-- the text of a setup within the limits is one
pub text_is : (setup : Parts) → IsSetupOf setup → AllByRecursion HasKey setup.rows → IsSetup (setup_text setup) setup
text_is setup limits keys = record { limits = limits; keys = keys; text = refl; short = short_text setup limits keys }
