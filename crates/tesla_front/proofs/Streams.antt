-- The digits of a stream's number.
use Rattle.std.proofs.Common.{◌≡◌, ◌∙◌, ◌<◌, ◌^◌, ℕ, zero, suc, Bool, true, List, Result, Ok, Err, refl, ap, arith}
use Rattle.std.specs.Prelude.{MatchResult, is_err}
use Rattle.std.specs.Int.{w64, to_be_bytes, from_be_bytes}
use Rattle.std.proofs.lemmas.Nat.{from_be_bytes-to_be_bytes_8}
use Rattle.hex.specs.Hex.{encode_lower, decode_sized, IsBytes}
use Rattle.hex.specs.declared.error.FromHexError.{FromHexError}
use Rattle.hex.proofs.HexLemmas.{decode_sized-encode_lower}

eight_fit : (n : ℕ) → IsBytes (to_be_bytes w64 n)
eight_fit n zero = omega arith
eight_fit n (suc zero) = omega arith
eight_fit n (suc (suc zero)) = omega arith
eight_fit n (suc (suc (suc zero))) = omega arith
eight_fit n (suc (suc (suc (suc zero)))) = omega arith
eight_fit n (suc (suc (suc (suc (suc zero))))) = omega arith
eight_fit n (suc (suc (suc (suc (suc (suc zero)))))) = omega arith
eight_fit n (suc (suc (suc (suc (suc (suc (suc zero))))))) = omega arith
eight_fit n (suc (suc (suc (suc (suc (suc (suc (suc i)))))))) = omega arith

-- what was decoded of a word
abbrev pub Decodes : List ℕ → List ℕ → Result (Unit {0}) FromHexError → Type 0
Decodes word bytes result = MatchResult (decode_sized word 8) (λ read. (result ≡ Ok tt) × (bytes ≡ read)) (λ e. result ≡ Err e)

-- the digits of a number are decoded, and are its bytes then
pub decoded : (word bytes : List ℕ) (result : Result (Unit {0}) FromHexError) (n : ℕ) → n < 2 ^ 64 → word ≡ encode_lower (to_be_bytes w64 n) → Decodes word bytes result → (result ≡ Ok tt) × (from_be_bytes w64 bytes ≡ n)
decoded word bytes result n fits spelled decodes =
    let whole : decode_sized word 8 ≡ Ok (to_be_bytes w64 n) = ap (λ w. decode_sized w 8) spelled ∙ decode_sized-encode_lower (to_be_bytes w64 n) 8 refl (eight_fit n) in
    let both : (result ≡ Ok tt) × (bytes ≡ to_be_bytes w64 n) = rw whole at decodes in
    (both.0, ap (from_be_bytes w64) both.1 ∙ from_be_bytes-to_be_bytes_8 n fits)

-- what was decoded is no refusal
pub is_decoded : (result : Result (Unit {0}) FromHexError) (refused : Bool) → result ≡ Ok tt → refused ≡ is_err result → refused ≡ true → ⊥
is_decoded result refused ok is met = let no : refused ≡ is_err {T = Unit {0}} {E = FromHexError} (Ok tt) = is ∙ ap is_err ok in cc
