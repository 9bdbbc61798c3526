-- The entries of a receiver of one stream.
use Rattle.tesla_fitting.specs.declared.verdict.Verdict.{Verdict}
use Rattle.tesla_receiver.specs.declared.history.Arrival as arrivals
use Rattle.tesla_receiver.specs.declared.history.Entry as entries
use Rattle.tesla_state.specs.declared.replies.Reply.{Reply}

-- an arrival with its verdict
abbrev pub Arrival : Type 0
Arrival = arrivals.Arrival Verdict

-- an event with its verdict or its reply
abbrev pub Entry : Type 0
Entry = entries.Entry Verdict Reply
