use Rattle.std.proofs.Common.{◌≡◌, ◌∙◌, Some, ap, sym, arith, rules, length, take, drop}
use Rattle.std.specs.List.{slice_get}
use Rattle.tesla_memory_desk.specs.LiveMemory.{cut, datagrams_stored}
use Rattle.tesla_memory_desk.proofs.Mail.{none_from, first_is, behind_rest, behind_whole}
use Rattle.tesla_memory_desk.proofs.stored_mail.StoredMail.datagram.Goals as goal

pub loop-preserved : goal.loop-preserved
loop-preserved c =
    let first = c.in-Some.ensures.cases.0 in
    let size : c.from.result ≡ c.in-Some.first.now = search rules in
    let back : c.split_at.result.1.now ≡ drop c.in-Some.first.now c.loop.bytes.now = c.split_at.ensures.back ∙ ap (λ n. drop n c.loop.bytes.now) size in
    record {
      whole = behind_whole c.loop.lengths.now c.in-Some.more.now c.loop.bytes.now c.in-Some.first.now first c.loop.invariant.whole ∙ sym (ap length back);
      rest = ap (λ b. cut c.in-Some.more.now b) back ∙ behind_rest c.loop.lengths.now c.in-Some.more.now c.loop.bytes.now c.in-Some.first.now c.loop.counter (datagrams_stored c.args.self.now) first c.loop.invariant.rest;
    }

pub returns-in_default : goal.returns-in_default
returns-in_default c = none_from c.loop.lengths.now c.loop.bytes.now c.loop.counter c.args.number _ c.in_default.ensures.cases c.loop.invariant.rest (omega (arith, c.loop-test.true))

pub returns-in_default-split_first : goal.returns-in_default-split_first
returns-in_default-split_first c = none_from c.loop.lengths.now c.loop.bytes.now c.loop.counter c.args.number _ c.in_default-split_first.ensures.cases c.loop.invariant.rest c.loop.auto.counter-end

pub returns : goal.returns
returns c =
    let size : c.from-2.result ≡ c.in-Some-split_first.first.now = search rules in
    let end : c.loop.counter ≡ c.args.number = omega (arith, c.loop-test.false, c.loop.auto.counter-end) in
    ap (λ d. Some d) (c.split_at-2.ensures.front ∙ ap (λ n. take n c.loop.bytes.now) size)
    ∙ first_is c.loop.lengths.now c.in-Some-split_first.field-0-1.now c.loop.bytes.now c.in-Some-split_first.first.now c.loop.counter (datagrams_stored c.args.self.now) c.in-Some-split_first.ensures.cases.0 c.loop.invariant.rest
    ∙ ap (λ n. slice_get (datagrams_stored c.args.self.now) n) end
