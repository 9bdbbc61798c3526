-- Numbers in big-endian fields.
use Rattle.std.specs.Prelude.{ℕ, ◌+◌, List, length, take, drop, Option, Some, None, nat_le, if◌then◌else◌}
use Rattle.std.specs.Int.{Width, byte_len, from_be_bytes}

-- the number in the field that begins at a place, where all of its bytes stand there
abbrev pub number_at : Width → List ℕ → ℕ → Option ℕ
number_at w bytes at = if nat_le (at + byte_len w) (length bytes) then Some (from_be_bytes w (take (byte_len w) (drop at bytes))) else None
