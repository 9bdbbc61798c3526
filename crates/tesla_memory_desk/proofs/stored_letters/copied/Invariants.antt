use Rattle.std.proofs.Common.{◌≡◌, take}
use Rattle.tesla_memory_desk.proofs.stored_letters.copied.Given as goal

abbrev pub invariant-loop-letter : goal.invariant-loop-letter
invariant-loop-letter l = l.items.items ≡ take l.letter-index l.letters
