use Rattle.std.proofs.Common.{◌≡◌, ◌<◌, Some, sym, ◌∙◌, ap, arith}
use Rattle.std.proofs.Math.Nat.{add-mul}
use Rattle.tesla_chain.specs.Cost.{bits}
use Rattle.tesla_chain.specs.Traversal.{next_given}
use Rattle.tesla_sender.proofs.Kept.{kept_more, kept_none}
use Rattle.tesla_sender.proofs.chain.keep_keys.Goals as goal

pub loop-init : goal.loop-init
loop-init g c = record {
  kept = kept_none c.args.traversal.now c.args.kept.now c.requires.room;
  call = omega arith;
  left = omega arith;
}

pub loop-preserved : goal.loop-preserved
loop-preserved g c =
    let start = c.args.traversal.now in
    let n = c.loop.counter in
    let kept = c.loop.invariant.kept in
    let more : c.loop.traversal.given < c.loop.traversal.last = omega (arith, kept.given, kept.last, c.requires.within, c.loop-test.true) in
    let gives : Some c.in-Some.key ≡ next_given c.loop.traversal = sym c.in-Some.is ∙ c.next.ensures.key in
    let digits : bits c.loop.traversal.last ≡ bits start.last = ap bits kept.last in
    record {
      kept = kept_more n start c.loop.traversal c.next.new.self c.args.kept.now c.loop.kept c.push_back.new.self c.in-Some.key kept more (c.next.ensures.given more) c.next.ensures.reserved gives c.push_back.ensures.items;
      call = omega (arith, c.loop.invariant.call, c.next.ensures.call, digits, add-mul n 1 (bits start.last));
      left = omega (arith, c.loop.invariant.left, c.next.ensures.left);
    }
