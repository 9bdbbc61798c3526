-- The grammars of traces and of tails, and the limits of their entries.
use Rattle.std.specs.Prelude.{◌≡◌, ℕ, ◌<◌, ◌≤◌, ◌^◌, List, length, Some}
use Rattle.tesla_base.specs.Prefix.{AreBytes}
use Rattle.tesla_base.specs.declared.release.Head.{Head}
use Rattle.tesla_fitting.specs.declared.verdict.Verdict.{Verdict}
use Rattle.tesla_fitting.specs.declared.verdict.Verdict.TheVariants as verdicts
use Rattle.tesla_receiver.specs.Entries.{Arrival, Entry}
use Rattle.tesla_receiver.specs.declared.history.Entry.TheVariants.{Arrived, Taken, Ended}
use Rattle.tesla_records.specs.Grammar.{Grammar, IsFile}
use Rattle.tesla_state.specs.declared.replies.Reply.{Reply}
use Rattle.tesla_state.specs.declared.replies.Reply.TheVariants.{Given, Empty, Over}
use Rattle.tesla_trace.specs.declared.kind.EntryFault.{EntryFault}
use Rattle.tesla_trace.specs.Parsing.{parse_entry, parse_head, parse_tail}
use Rattle.tesla_trace.specs.Trace.{entry_text, tail_head, trace_head}

-- what a verdict tells is within its size
abbrev pub VerdictFits : Verdict → Type 0
VerdictFits (verdicts.Foreign stream) = stream.0 < 2 ^ 64
VerdictFits (verdicts.Future (Some bound)) = bound < 2 ^ 64
VerdictFits (verdicts.BadKey chain) = chain.0 < 256
VerdictFits (verdicts.Kept chains) = chains < 256
VerdictFits _ = Unit {0}

-- the fields of a packet that was given are within their sizes, and its length is that of the payload
pub record GivenFits (head : Head) (payload : List ℕ) : Type 0 where
  pub position : head.position < 2 ^ 64
  pub interval : head.interval < 2 ^ 32
  pub number : head.number < 2 ^ 16
  pub chain : head.chain < 256
  pub length_is : head.length ≡ length payload
  pub few : length payload ≤ 1200
  pub bytes : AreBytes payload

-- what an answer to a take gives is within its limits
abbrev pub ReplyFits : Reply → Type 0
ReplyFits (Given head payload) = GivenFits head payload
ReplyFits Empty = Unit {0}
ReplyFits Over = Unit {0}

-- the fields of an arrival are within their limits
pub record ArrivalFits (arrival : Arrival) : Type 0 where
  pub ingest : arrival.ingest < 256
  pub reading : arrival.reading < 2 ^ 64
  pub few : length arrival.bytes ≤ 2048
  pub bytes : AreBytes arrival.bytes
  pub verdict : VerdictFits arrival.verdict

-- the limits of an entry's fields
abbrev pub IsTraceEntry : Entry → Type 0
IsTraceEntry (Arrived arrival) = ArrivalFits arrival
IsTraceEntry (Taken releaser reply) = (releaser < 256) × ReplyFits reply
IsTraceEntry (Ended ingest) = ingest < 256

-- the grammar of traces: a head tells how many ingests the receiver has
abbrev pub trace : Grammar
trace = record {
  Head = ℕ;
  head_text = trace_head;
  IsHead = λ ingests. (1 ≤ ingests) × (ingests ≤ 32);
  head_size = 6;
  parse_head = parse_head;
  Record = Entry;
  record_text = entry_text;
  IsRecord = IsTraceEntry;
  longest = 2070;
  Kind = EntryFault;
  parse = parse_entry;
}

-- the bytes spell a trace of so many ingests with this history
abbrev pub IsTrace : List ℕ → ℕ → List Entry → Type 0
IsTrace bytes ingests history = IsFile trace bytes ingests history

-- the grammar of tails: a head tells how many entries stand before the first one
abbrev pub tail : Grammar
tail = record {
  Head = ℕ;
  head_text = tail_head;
  IsHead = λ first. first < 2 ^ 64;
  head_size = 13;
  parse_head = parse_tail;
  Record = Entry;
  record_text = entry_text;
  IsRecord = IsTraceEntry;
  longest = 2070;
  Kind = EntryFault;
  parse = parse_entry;
}

-- the bytes spell the last entries of a history, before which so many stand
abbrev pub IsTail : List ℕ → ℕ → List Entry → Type 0
IsTail bytes first entries = IsFile tail bytes first entries
