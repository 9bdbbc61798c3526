use Rattle.std.proofs.Common.{◌≡◌, ◌<◌, ◌∙◌, ap, subst, sym, get_or, length, length-set, arith}
use Rattle.std.proofs.Math.Seq.{map-set_same}
use Rattle.std.proofs.lemmas.List.Elements.{AllWithin-more_set}
use Rattle.std.proofs.lemmas.List.Sums.{sum_by-set}
use Rattle.tesla_sender.specs.Chains.{chain_in, left_in, reserved_in, CanTag, IsPrepared}
use Rattle.tesla_sender.proofs.Unwritten.{after_set}
use Rattle.tesla_sender.proofs.Senders.{prepared}
use Rattle.tesla_sender.proofs.rows.prepare_all.Goals as goal

pub loop-i-preserved : goal.loop-i-preserved
loop-i-preserved g c =
    let xs = c.loop-i.chains.items in
    let i = c.loop-i.i in
    let was = c.index_mut.result.now in
    let now = c.make_mac.new.self in
    let kept = c.loop-i.invariant in
    let here : i < length xs = omega (arith, c.loop-i-test.true, kept.count) in
    let sums = sum_by-set left_in xs i now was here in
    let left : left_in was ≡ left_in (get_or xs i was) = ap left_in c.index_mut.ensures.value in
    let can : CanTag c.args.interval was = subst (CanTag c.args.interval) (sym c.index_mut.ensures.value) (kept.made i was (omega arith) here) in
    let rooms = sum_by-set reserved_in xs i now was here in
    let room : reserved_in was ≡ reserved_in (get_or xs i was) = ap reserved_in c.index_mut.ensures.value in
    record {
      count = omega (arith, kept.count, length-set xs i now);
      same = map-set_same chain_in xs i now was (c.make_mac.ensures.same ∙ ap chain_in c.index_mut.ensures.value) ∙ kept.same;
      done = AllWithin-more_set xs i now here (IsPrepared c.args.interval) kept.done (prepared c.args.interval was now can c.make_mac.ensures.same c.make_mac.ensures.reached c.make_mac.ensures.tagging);
      made = after_set (CanTag c.args.interval) xs i now kept.made;
      left = omega (arith, sums, left, kept.left, c.make_mac.ensures.left);
      cost = omega (arith, kept.cost, c.make_mac.ensures.cost);
      reserved = omega (arith, rooms, room, kept.reserved, c.make_mac.ensures.reserved);
    }
