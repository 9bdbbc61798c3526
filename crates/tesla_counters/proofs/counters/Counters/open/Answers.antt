use Rattle.tesla_counters.proofs.StepsKept.{starts}
use Rattle.tesla_counters.proofs.counters.Counters.open.Goals as goal

pub of_words-requires : goal.of_words-requires
of_words-requires g c = starts g.row.N
