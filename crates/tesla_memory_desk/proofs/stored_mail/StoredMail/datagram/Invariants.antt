use Rattle.std.proofs.Common.{◌≡◌, length, drop}
use Rattle.std.specs.List.{sum}
use Rattle.tesla_memory_desk.specs.LiveMemory.{cut, datagrams_stored}
use Rattle.tesla_memory_desk.proofs.stored_mail.StoredMail.datagram.Given as goal

abbrev pub invariant-loop : goal.invariant-loop
invariant-loop l = record {
  whole : sum l.lengths ≡ length l.bytes;
  rest : cut l.lengths l.bytes ≡ drop l.counter (datagrams_stored l.self);
}
