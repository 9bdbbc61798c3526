use Rattle.std.proofs.Common.{◌<◌, ◌≢◌, length, map, take, drop, arith, length-set, get_or-set_other, get_or-set_same, below_more}
use Rattle.tesla_frame.specs.Reading.{tag_row_at}
use Rattle.tesla_frame.specs.View.{tag_row_in}
use Rattle.tesla_frame.proofs.Loop.{goes_on_in, ends, is_done}
use Rattle.tesla_frame.proofs.rows.row_starts.Goals as goal

pub returns-in_default-clause-exact : goal.returns-in_default-clause-exact
returns-in_default-clause-exact c =
    ends (tag_row_at c.args.size) (map (tag_row_in c.args.size c.args.bytes.now) (take c.loop-place.place c.loop-place.starts)) c.args.count c.loop-place.place (drop c.loop-place.at c.args.bytes.now) _ c.loop-place-test.true c.in_default.ensures.exact c.loop-place.invariant.so_far

pub loop-place-preserved : goal.loop-place-preserved
loop-place-preserved c = record {
  room = rw length-set c.loop-place.invariant.room;
  near = omega (arith, c.in-Some.ensures.most);
  within = c.in-Some.ensures.within;
  rows = below_more _ _
      (λ k h. let ne : k ≢ c.loop-place.place = omega arith in rw get_or-set_other (c.loop-place.invariant.rows k h))
      (let lt : c.loop-place.place < length c.loop-place.starts = omega arith in rw get_or-set_same c.in-Some.ensures.row);
  so_far = goes_on_in (tag_row_at c.args.size) (tag_row_in c.args.size c.args.bytes.now) c.loop-place.starts c.args.count c.loop-place.place (drop c.loop-place.at c.args.bytes.now) c.loop-place.at (drop c.in-Some.next c.args.bytes.now) _ c.loop-place-test.true (omega arith) c.in-Some.ensures.exact c.loop-place.invariant.so_far;
}

pub returns-clause-exact : goal.returns-clause-exact
returns-clause-exact c =
    is_done (tag_row_at c.args.size) (λ n. map (tag_row_in c.args.size c.args.bytes.now) (take n c.loop-place.starts)) c.args.count c.loop-place.place (drop c.loop-place.at c.args.bytes.now) _ c.loop-place.auto.place-end c.loop-place-test.false c.loop-place.invariant.so_far
