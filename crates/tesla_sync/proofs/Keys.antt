-- A key is read exactly where it is spelled.
use Rattle.std.proofs.Common.{◌≡◌, ◌∙◌, ◌==◌, ℕ, true, Some, Result, Ok, Err, List, length, take, refl, sym, ap, arith}
use Rattle.std.specs.Prelude.{codes}
use Rattle.std.specs.Str.{bytes_eq}
use Rattle.std.proofs.lemmas.List.{take_at, length-append}
use Rattle.std.proofs.lemmas.Slice.Eq.{bytes_eq-Decides}
use Rattle.hex.specs.Hex.{decode_sized, encode_lower, lower_digits}
use Rattle.hex.specs.declared.error.FromHexError.{FromHexError}
use Rattle.hex.proofs.HexLemmas.{decode_of-ok, decode_sized-encode_lower, decode_sized-ok, decode_sized-twice, length-encode_with}
use Rattle.tesla_base.proofs.Prefixes.{some_is, test_some}
use Rattle.tesla_base.specs.declared.names.Key.{Key}
use Rattle.tesla_sync.specs.KeyText.{IsKeyText, key_of, key_spelled, key_text}

-- what is spelled so is read
pub key_only : (text : List ℕ) (key : Key) → IsKeyText text key → key_of text ≡ Some key
key_only text key is =
    let digits : length (encode_lower key.0) ≡ 64 = omega (arith, length-encode_with lower_digits key.0, is.whole) in
    let long : length text ≡ 65 = ap length is.spelled ∙ omega (arith, digits, length-append (encode_lower key.0) (codes "\n")) in
    let prefix : take 64 text ≡ encode_lower key.0 = ap (take 64) is.spelled ∙ take_at (encode_lower key.0) (codes "\n") 64 digits in
    let read : decode_sized (take 64 text) 32 ≡ Ok key.0 = ap (λ t. decode_sized t 32) prefix ∙ decode_sized-encode_lower key.0 32 is.whole is.bytes in
    let same : bytes_eq text (key_text key) ≡ true = (bytes_eq-Decides text (key_text key)).1 is.spelled in
    rw (long, read, same) refl

spelled_by : (text : List ℕ) (read : Result (List ℕ) FromHexError) (key : Key) → key_spelled text read ≡ Some key → (read ≡ Ok key.0) × (text ≡ key_text key)
spelled_by text (Err e) key h = absurd cc
spelled_by text (Ok bytes) key h =
    let made : Key = record { 0 = bytes } in
    let it = test_some (bytes_eq text (key_text made)) (Some made) key h in
    let same : made ≡ key = some_is made key it.1 in
    (ap (λ (k : Key). Ok k.0) same, (bytes_eq-Decides text (key_text made)).0 it.0 ∙ ap key_text same)

-- what is read is spelled so
pub key_found : (text : List ℕ) (key : Key) → key_of text ≡ Some key → IsKeyText text key
key_found text key h =
    let long = test_some (length text == 65) (key_spelled text (decode_sized (take 64 text) 32)) key h in
    let it = spelled_by text (decode_sized (take 64 text) 32) key long.1 in
    let twice = decode_sized-ok (take 64 text) 32 key.0 it.0 in
    let read = decode_of-ok (take 64 text) key.0 (sym (decode_sized-twice (take 64 text) 32 twice) ∙ it.0) in
    record { whole = omega (arith, twice, read.2); bytes = read.3; spelled = it.1 }
