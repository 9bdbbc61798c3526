use Rattle.std.proofs.Common.{◌≡◌, ◌+◌, ◌≤◌, length}
use Rattle.std.specs.Prelude.{count_by}
use Rattle.tesla_buffer.specs.Held.{is_untaken}
use Rattle.tesla_buffer.proofs.buffer.Buffer.clear.Given as goal

-- at least so many packets are gone, and those of them that weren't taken are counted
abbrev pub invariant-loop-gone : goal.invariant-loop-gone
invariant-loop-gone l = record {
  left : length l.self.held + l._gone ≤ length l.initial.self.held;
  few : l.dropped ≤ l._gone;
  counted : l.dropped + count_by is_untaken l.self.held ≡ count_by is_untaken l.initial.self.held;
  capacity : l.self.capacity ≡ l.initial.self.capacity;
  reserved : l.self.reserved ≡ l.initial.self.reserved;
}
