use Rattle.std.proofs.Common.{◌≡◌, ◌∙◌, ℕ, Some, true, not, ap, sym}
use Rattle.std.specs.Int.{w64, to_be_bytes}
use Rattle.std.specs.Str.{bytes_eq}
use Rattle.std.proofs.lemmas.Slice.Eq.{bytes_eq-Decides}
use Rattle.hex.specs.Hex.{encode_lower}
use Rattle.tesla_front.proofs.Streams.{decoded, is_decoded}
use Rattle.tesla_front.proofs.words.stream_in.Goals as goal

pub returns-then-is_err-clause-only : goal.returns-then-is_err-clause-only
returns-then-is_err-clause-only c stream fits spelled =
    let it = decoded _ _ _ stream.0 fits spelled c.decode_to_slice.ensures.value in
    absurd (is_decoded _ _ it.0 c.is_err.ensures.value c.if-is_err.true)

pub returns-then-ne-clause-only : goal.returns-then-ne-clause-only
returns-then-ne-clause-only c stream fits spelled =
    let it = decoded _ _ _ stream.0 fits spelled c.decode_to_slice.ensures.value in
    let number : c.from_be_bytes-number.result ≡ stream.0 = c.from_be_bytes-number.ensures ∙ it.1 in
    let same : c.args.word.now ≡ c.as_slice.result.now = spelled ∙ ap (λ n. encode_lower (to_be_bytes w64 n)) (sym number) ∙ sym c.digits_of.ensures ∙ sym c.as_slice.ensures in
    let equal : bytes_eq c.args.word.now c.as_slice.result.now ≡ true = (bytes_eq-Decides c.args.word.now c.as_slice.result.now).1 same in
    let other = ap not equal in
    absurd cc

pub returns-clause-only : goal.returns-clause-only
returns-clause-only c stream fits spelled =
    let it = decoded _ _ _ stream.0 fits spelled c.decode_to_slice.ensures.value in
    ap (λ (n : ℕ). Some (record { 0 = n })) (c.from_be_bytes-number.ensures ∙ it.1)
