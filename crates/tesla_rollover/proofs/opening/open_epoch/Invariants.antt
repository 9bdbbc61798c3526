use Rattle.tesla_rollover.proofs.Opened.{IsOpening}
use Rattle.tesla_rollover.proofs.opening.open_epoch.Given as goal

-- the ends of the ingests so far are made
abbrev pub invariant-loop-ingest : goal.invariant-loop-ingest
invariant-loop-ingest l = IsOpening l.config l.first l.fn.setup l.ingest l.receiver
