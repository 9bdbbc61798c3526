use Rattle.std.proofs.Common.{ℕ, ◌<◌, length, get_or, bit_xor, arith}
use Rattle.std.proofs.lemmas.List.{get_or_default}
use Rattle.std.proofs.lemmas.List.Edits.{map_over_more}
use Rattle.tesla_prf.proofs.hmac.padded.Goals as goal

pub loop-byte-preserved : goal.loop-byte-preserved
loop-byte-preserved c =
    let here : c.loop-byte.byte-index < length c.args.block.now = omega arith in
    map_over_more (λ (b : ℕ). bit_xor b c.args.pad) c.args.block.now c.loop-byte.byte-items c.loop-byte.byte-index (get_or c.loop-byte.byte-items c.loop-byte.byte-index 0) here c.loop-byte.invariant (get_or_default c.loop-byte.byte-items c.loop-byte.byte-index 0 _ (omega arith))
