use Rattle.std.proofs.Common.{◌≡◌, ◌<◌, ◌∙◌, ap, get_or, length, length-set, arith}
use Rattle.std.proofs.Math.Seq.{map-set_same}
use Rattle.std.proofs.lemmas.List.Elements.{AllWithin-more_set}
use Rattle.std.proofs.lemmas.List.Sums.{sum_by-set}
use Rattle.tesla_sender.specs.Chains.{chain_in, left_in, reserved_in, steps_to, IsReady, HasReached}
use Rattle.tesla_sender.proofs.Costs.{none_further}
use Rattle.tesla_sender.proofs.Unwritten.{after_set}
use Rattle.tesla_sender.proofs.rows.advance_all.Goals as goal

pub loop-i-preserved : goal.loop-i-preserved
loop-i-preserved g c =
    let xs = c.loop-i.chains.items in
    let i = c.loop-i.i in
    let was = c.index_mut.result.now in
    let now = c.advance.new.self in
    let kept = c.loop-i.invariant in
    let here : i < length xs = omega (arith, c.loop-i-test.true, kept.count) in
    let sums = sum_by-set left_in xs i now was here in
    let left : left_in was ≡ left_in (get_or xs i was) = ap left_in c.index_mut.ensures.value in
    let most = sum_by-set (steps_to c.args.interval) xs i now was here in
    let costs : steps_to c.args.interval was ≡ steps_to c.args.interval (get_or xs i was) = ap (steps_to c.args.interval) c.index_mut.ensures.value in
    let done = none_further c.args.interval now c.advance.ensures.reached in
    let rooms = sum_by-set reserved_in xs i now was here in
    let room : reserved_in was ≡ reserved_in (get_or xs i was) = ap reserved_in c.index_mut.ensures.value in
    record {
      count = omega (arith, kept.count, length-set xs i now);
      same = map-set_same chain_in xs i now was (c.advance.ensures.same ∙ ap chain_in c.index_mut.ensures.value) ∙ kept.same;
      done = AllWithin-more_set xs i now here (HasReached c.args.interval) kept.done c.advance.ensures.reached;
      ready = after_set (IsReady c.args.interval) xs i now kept.ready;
      left = omega (arith, sums, left, kept.left, c.advance.ensures.left);
      call = omega (arith, most, costs, done, kept.call, c.advance.ensures.call);
      reserved = omega (arith, rooms, room, kept.reserved, c.advance.ensures.reserved);
    }
