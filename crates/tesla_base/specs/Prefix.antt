-- What stands at the start of bytes, with the bytes after it.
use Rattle.std.specs.Prelude.{ℕ, ◌<◌, List, length, take, drop, Option, Some, None, nat_lt, if◌then◌else◌}
use Rattle.std.specs.List.{AllByRecursion}
use Rattle.std.specs.Int.{Width, byte_len, from_be_bytes}

-- each byte is one
abbrev pub AreBytes : List ℕ → Type 0
AreBytes bytes = AllByRecursion (λ b. b < 256) bytes

-- the next step takes what the one before gives
infixl 10 ◌>>=◌
abbrev pub ◌>>=◌ : {A B : Type 0} → Option A → (A → Option B) → Option B
None >>= f = None
(Some x) >>= f = f x

-- so many bytes
abbrev pub parse_bytes : ℕ → List ℕ → Option (List ℕ × List ℕ)
parse_bytes n bytes = if nat_lt (length bytes) n then None else Some (take n bytes, drop n bytes)

-- the number whose bytes stand there, the highest first
abbrev pub parse_number : Width → List ℕ → Option (ℕ × List ℕ)
parse_number w bytes =
    if nat_lt (length bytes) (byte_len w) then None
    else Some (from_be_bytes w (take (byte_len w) bytes), drop (byte_len w) bytes)
