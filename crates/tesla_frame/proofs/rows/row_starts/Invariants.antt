use Rattle.std.proofs.Common.{◌≡◌, ◌-◌, ◌*◌, ◌≤◌, map, take, drop, length}
use Rattle.tesla_frame.specs.Reading.{rows_at, tag_row_at}
use Rattle.tesla_frame.specs.View.{tag_row_in, AreRowsAt}
use Rattle.tesla_frame.proofs.Loop.{with_prefix}
use Rattle.tesla_frame.proofs.rows.row_starts.Given as goal

abbrev pub invariant-loop-place : goal.invariant-loop-place
invariant-loop-place l = record {
  room : length l.starts ≡ 8;
  near : l.at ≤ 65 * l.place;
  within : l.at ≤ length l.bytes;
  rows : AreRowsAt l.size l.bytes l.place l.starts;
  so_far : with_prefix (map (tag_row_in l.size l.bytes) (take l.place l.starts)) (rows_at (tag_row_at l.size) (l.count - l.place) (drop l.at l.bytes)) ≡ rows_at (tag_row_at l.size) l.count l.bytes;
}
