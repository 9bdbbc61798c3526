use Rattle.std.proofs.Common.{◌≡◌, false, length, take}
use Rattle.std.specs.List.{list_any}
use Rattle.tesla_follow.specs.Kept.{is_stream}
use Rattle.tesla_follow.proofs.known.Known.has.Given as goal

-- none of those so far is the stream
abbrev pub invariant-loop-place : goal.invariant-loop-place
invariant-loop-place l = record {
  none : list_any (is_stream l.stream) (take l.place l.self) ≡ false;
  end : l.place-end ≡ length l.self;
}
