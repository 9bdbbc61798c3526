use Rattle.std.proofs.Common.{◌∙◌, ℕ, List, take, length, ap, sym, arith}
use Rattle.std.specs.Prelude.{bytes_eq}
use Rattle.tesla_capture.specs.HeadParsed.{part_tells, other_part_tells, whole_tells, other_tells}
use Rattle.tesla_capture.proofs.judging.judge_head.Goals as goal

pub returns-then-eq : goal.returns-then-eq
returns-then-eq g c =
    let five = g.met.F.Format.is.five in
    part_tells _ _ (omega (arith, five, c.if-bytes-lt-HEAD_SIZE.true))
    (ap (λ (h : List ℕ). bytes_eq c.args.bytes.now (take (length c.args.bytes.now) h)) (sym c.head-head.ensures) ∙ sym c.eq.ensures ∙ c.if-eq.true)

pub returns-else-eq : goal.returns-else-eq
returns-else-eq g c =
    let five = g.met.F.Format.is.five in
    other_part_tells _ _ (omega (arith, five, c.if-bytes-lt-HEAD_SIZE.true))
    (ap (λ (h : List ℕ). bytes_eq c.args.bytes.now (take (length c.args.bytes.now) h)) (sym c.head-head.ensures) ∙ sym c.eq.ensures ∙ c.if-eq.false)

pub returns-then-eq-2 : goal.returns-then-eq-2
returns-then-eq-2 g c =
    let five = g.met.F.Format.is.five in
    whole_tells _ _
    (ap (λ (k : ℕ). bytes_eq (take k c.args.bytes.now) g.F.Format.grammar.head) five
    ∙ ap (bytes_eq (take 5 c.args.bytes.now)) (sym c.head-head.ensures ∙ sym c.as_slice.ensures) ∙ sym c.eq-else-bytes-lt-HEAD_SIZE.ensures ∙ c.if-eq-2.true)

pub returns-else-eq-2 : goal.returns-else-eq-2
returns-else-eq-2 g c =
    let five = g.met.F.Format.is.five in
    other_tells _ _ (omega (arith, five, c.if-bytes-lt-HEAD_SIZE.false))
    (ap (λ (k : ℕ). bytes_eq (take k c.args.bytes.now) g.F.Format.grammar.head) five
    ∙ ap (bytes_eq (take 5 c.args.bytes.now)) (sym c.head-head.ensures ∙ sym c.as_slice.ensures) ∙ sym c.eq-else-bytes-lt-HEAD_SIZE.ensures ∙ c.if-eq-2.false)
