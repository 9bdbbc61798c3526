-- The spelling of traces and of tails. A trace is a file of a receiver's history, with every answer. The format is the project's own.
use Rattle.std.specs.Prelude.{ℕ, List, [], ◌∷◌, ◌++◌, length, flat_map, codes, Some, None}
use Rattle.std.specs.Int.{w16, w64, to_be_bytes}
use Rattle.tesla_capture.specs.Release.{release_text}
use Rattle.tesla_fitting.specs.declared.verdict.Verdict.{Verdict}
use Rattle.tesla_fitting.specs.declared.verdict.Verdict.TheVariants as verdicts
use Rattle.tesla_receiver.specs.Entries.{Entry}
use Rattle.tesla_receiver.specs.declared.history.Entry.TheVariants.{Arrived, Taken, Ended}
use Rattle.tesla_state.specs.declared.replies.Reply.{Reply}
use Rattle.tesla_state.specs.declared.replies.Reply.TheVariants.{Given, Empty, Over}

-- a verdict: its number, and what it tells beside that
abbrev pub verdict_text : Verdict → List ℕ
verdict_text verdicts.Malformed = 1 ∷ []
verdict_text (verdicts.Foreign stream) = 2 ∷ to_be_bytes w64 stream.0
verdict_text verdicts.Misfit = 3 ∷ []
verdict_text (verdicts.Future None) = 4 ∷ 0 ∷ []
verdict_text (verdicts.Future (Some bound)) = 4 ∷ 1 ∷ to_be_bytes w64 bound
verdict_text (verdicts.BadKey chain) = 5 ∷ chain.0 ∷ []
verdict_text verdicts.Late = 6 ∷ []
verdict_text verdicts.Repeat = 7 ∷ []
verdict_text verdicts.Full = 8 ∷ []
verdict_text (verdicts.Kept chains) = 9 ∷ chains ∷ []
verdict_text verdicts.Keys = 10 ∷ []

-- an answer to a take: nothing waits, all is over, or the release record of the packet that was given
abbrev pub reply_text : Reply → List ℕ
reply_text Empty = 0 ∷ []
reply_text Over = 1 ∷ []
reply_text (Given head payload) = 2 ∷ release_text head payload

-- the one spelling of an entry
abbrev pub entry_text : Entry → List ℕ
entry_text (Arrived arrival) =
    1 ∷ arrival.ingest ∷ [] ++ to_be_bytes w64 arrival.reading ++ to_be_bytes w16 (length arrival.bytes) ++ arrival.bytes ++ verdict_text arrival.verdict
entry_text (Taken releaser reply) = 2 ∷ releaser ∷ reply_text reply
entry_text (Ended ingest) = 3 ∷ ingest ∷ []

-- the first bytes of a trace: the magic, version 1, and how many ingests the receiver has
abbrev pub trace_head : ℕ → List ℕ
trace_head ingests = codes "TTRC" ++ 1 ∷ ingests ∷ []

-- the one spelling of a trace
abbrev pub trace_text : ℕ → List Entry → List ℕ
trace_text ingests history = trace_head ingests ++ flat_map entry_text history

-- the first bytes of the last entries of a history: the magic, version 1, and the number of the first of them
abbrev pub tail_head : ℕ → List ℕ
tail_head first = codes "TTAL" ++ 1 ∷ [] ++ to_be_bytes w64 first

-- the one spelling of the last entries of a history, told how many stand before them
abbrev pub tail_text : ℕ → List Entry → List ℕ
tail_text first entries = tail_head first ++ flat_map entry_text entries
