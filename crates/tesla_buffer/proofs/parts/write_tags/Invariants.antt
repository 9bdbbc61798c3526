use Rattle.std.proofs.Common.{◌≡◌, length}
use Rattle.tesla_buffer.proofs.Written.{AreWritten}
use Rattle.tesla_buffer.proofs.parts.write_tags.Given as goal

-- the tags of the rows so far
abbrev pub invariant-loop-chain : goal.invariant-loop-chain
invariant-loop-chain l = (length l.room ≡ 8) × AreWritten l.frame.rows l.chain l.room
