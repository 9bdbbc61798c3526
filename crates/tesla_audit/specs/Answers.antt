-- What an answer is called: its name, then its numbers. One blank stands before each number.
use Rattle.std.specs.Prelude.{ℕ, List, [], ◌++◌, Some, None, codes, decimal}
use Rattle.tesla_base.specs.declared.release.Head.{Head}
use Rattle.tesla_fitting.specs.declared.verdict.Verdict.{Verdict}
use Rattle.tesla_fitting.specs.declared.verdict.Verdict.TheVariants as verdicts
use Rattle.tesla_receiver.specs.Entries.{Entry}
use Rattle.tesla_receiver.specs.declared.history.Entry.TheVariants.{Arrived, Taken, Ended}
use Rattle.tesla_state.specs.declared.replies.Reply.{Reply}
use Rattle.tesla_state.specs.declared.replies.Reply.TheVariants.{Given, Empty, Over}

-- a verdict
abbrev pub verdict_words : Verdict → List ℕ
verdict_words verdicts.Malformed = codes "Malformed"
verdict_words (verdicts.Foreign stream) = codes "Foreign " ++ decimal stream.0
verdict_words verdicts.Misfit = codes "Misfit"
verdict_words (verdicts.Future None) = codes "Future none"
verdict_words (verdicts.Future (Some bound)) = codes "Future " ++ decimal bound
verdict_words (verdicts.BadKey chain) = codes "BadKey " ++ decimal chain.0
verdict_words verdicts.Late = codes "Late"
verdict_words verdicts.Repeat = codes "Repeat"
verdict_words verdicts.Full = codes "Full"
verdict_words (verdicts.Kept chains) = codes "Kept " ++ decimal chains
verdict_words verdicts.Keys = codes "Keys"

-- a packet that was given: its position, its interval, its number, its chain and the length of its payload
abbrev pub given_words : Head → List ℕ
given_words head =
    codes "Given " ++ decimal head.position ++ codes " " ++ decimal head.interval ++ codes " " ++ decimal head.number ++ codes " " ++ decimal head.chain ++ codes " "
    ++ decimal head.length

-- an answer to a take
abbrev pub reply_words : Reply → List ℕ
reply_words (Given head payload) = given_words head
reply_words Empty = codes "Empty"
reply_words Over = codes "Over"

-- the answer of an entry: an end has none
abbrev pub answer_line : Entry → List ℕ
answer_line (Arrived arrival) = verdict_words arrival.verdict
answer_line (Taken releaser reply) = reply_words reply
answer_line (Ended ingest) = []
