-- The text of the shared key, and what is read of it.
use Rattle.std.specs.Prelude.{◌≡◌, ℕ, ◌==◌, List, ◌++◌, length, take, Option, Some, None, Result, Ok, Err, bytes_eq, if◌then◌else◌, codes}
use Rattle.hex.specs.Hex.{decode_sized, encode_lower, IsBytes}
use Rattle.hex.specs.declared.error.FromHexError.{FromHexError}
use Rattle.tesla_base.specs.declared.names.Key.{Key}

-- the lower-case hexadecimal digits of the key, and an LF
abbrev pub key_text : Key → List ℕ
key_text key = encode_lower key.0 ++ codes "\n"

-- the text spells this key of 32 bytes
pub record IsKeyText (text : List ℕ) (key : Key) : Type 0 where
  pub whole : length key.0 ≡ 32
  pub bytes : IsBytes key.0
  pub spelled : text ≡ key_text key

-- the key of these bytes, where the text is its one spelling
abbrev pub key_spelled : List ℕ → Result (List ℕ) FromHexError → Option Key
key_spelled text (Err e) = None
key_spelled text (Ok bytes) = if bytes_eq text (key_text (record { 0 = bytes })) then Some (record { 0 = bytes }) else None

-- the key that the text spells
abbrev pub key_of : List ℕ → Option Key
key_of text = if length text == 65 then key_spelled text (decode_sized (take 64 text) 32) else None
