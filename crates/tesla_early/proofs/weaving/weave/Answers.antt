use Rattle.std.proofs.Common.{◌≡◌, ℕ, ◌-◌, ◌+◌, ◌<◌, ◌≤◌, length, drop, take, reverse, slice_get, get_or, refl, sym, subst, ap, ◌∙◌, arith, vec_len}
use Rattle.tesla_early.specs.Woven.{woven, woven_payload}
use Rattle.std.proofs.lemmas.List.Elements.{All-same}
use Rattle.tesla_early.proofs.Each.{woven_fit}
use Rattle.tesla_early.proofs.FromEnd.{woven_more}
use Rattle.tesla_early.proofs.weaving.weave.Goals as goal

pub loop-alloc-preserved : goal.loop-alloc-preserved
loop-alloc-preserved c =
    let names = c.args.names.now in
    let bodies = c.args.bodies.now in
    let old = c.loop-alloc.payloads in
    let made : vec_len old < length bodies = subst (λ (n : ℕ). n < length bodies) c.len.ensures c.loop-alloc-test.true in
    let index : ℕ = length bodies - vec_len old - 1 in
    let len : c.len-in-loop-alloc.result ≡ vec_len old = c.len-in-loop-alloc.ensures in
    let count : vec_len c.push_reserved.new.self ≡ vec_len old + 1 = c.push_reserved.ensures.len in
    let after : length bodies - vec_len c.push_reserved.new.self ≡ index = omega (arith, count, made) in
    let own : c.in_ok-payload.payload ≡ woven_payload (slice_get (take (length names - (index + 1)) (drop (index + 1) names)) (c.args.gap - 1)) (slice_get (reverse old.items) (c.args.gap - 1)) c.index-bodies-place.result =
    c.in_ok-payload.ensures ∙ (rw (len, c.as_slice.ensures.value, c.bytes.ensures) refl) in (
      c.push_reserved.ensures.capacity ∙ c.loop-alloc.invariant.0,
      omega (arith, count, made),
      ap reverse c.push_reserved.ensures.items
          ∙ woven_more c.args.gap names bodies old.items c.in_ok-payload.payload c.index-bodies-place.result c.index-bodies-place.result (length bodies - vec_len old) index c.requires.same (omega (arith, made)) (omega (arith, made)) (c.index-bodies-place.is ∙ ap (λ (n : ℕ). get_or bodies (length bodies - n - 1) c.index-bodies-place.result) len) c.loop-alloc.invariant.2 own
          ∙ ap (λ (n : ℕ). woven c.args.gap (drop n names) (drop n bodies)) (sym after),
    )

pub returns-clause-sizes : goal.returns-clause-sizes
returns-clause-sizes c =
    let names = c.args.names.now in
    let bodies = c.args.bodies.now in
    let full : length bodies ≤ vec_len c.loop-alloc.payloads = subst (λ (n : ℕ). length bodies ≤ n) c.len.ensures c.loop-alloc-test.false in
    let none : length bodies - vec_len c.loop-alloc.payloads ≡ 0 = omega (arith, full) in
    All-same (λ payload. length payload ≤ 1200) c.reverse.new.self.items (woven c.args.gap names bodies)
    (c.reverse.ensures.items ∙ c.loop-alloc.invariant.2 ∙ ap (λ (n : ℕ). woven c.args.gap (drop n names) (drop n bodies)) none)
    (woven_fit c.args.gap names bodies c.requires.short)
