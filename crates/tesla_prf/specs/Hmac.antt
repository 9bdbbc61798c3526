-- HMAC over SHA-256 (RFC 2104, section 2; FIPS 180-4), on lists of bytes.
use Rattle.std.specs.Prelude.{ℕ, ◌-◌, List, ◌++◌, length, map, replicate, nat_lt, bit_xor, if◌then◌else◌}
use Rattle.sha2.specs.Sha256.{sha256}

-- the key, or its digest where it is longer than a block, filled up with zeros to the block's 64 bytes
abbrev pub block_key : List ℕ → List ℕ
block_key key =
    let short = if nat_lt 64 (length key) then sha256 key else key in short ++ replicate (64 - length short) 0

-- each byte of the block, exclusive or with the pad
abbrev pub padded_with : ℕ → List ℕ → List ℕ
padded_with pad block = map (λ b. bit_xor b pad) block

-- HMAC of a text under a key: 32 bytes
unfoldable pub hmac_of : List ℕ → List ℕ → List ℕ
hmac_of key text =
    sha256 (padded_with 0x5c (block_key key) ++ sha256 (padded_with 0x36 (block_key key) ++ text))
