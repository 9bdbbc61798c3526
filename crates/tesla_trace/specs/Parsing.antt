-- What the bytes of a trace tell that were read so far. They are read from left to right.
use Rattle.std.specs.Prelude.{ℕ, zero, suc, ◌-◌, ◌&&◌, List, [], ◌∷◌, ◌++◌, length, Option, Some, None, nat_lt, nat_le, ◌==◌, if◌then◌else◌, codes}
use Rattle.std.specs.Int.{Width, w16, w32, w64}
use Rattle.tesla_base.specs.Prefix.{parse_bytes, parse_number}
use Rattle.tesla_fitting.specs.declared.verdict.Verdict.{Verdict}
use Rattle.tesla_fitting.specs.declared.verdict.Verdict.TheVariants as verdicts
use Rattle.tesla_receiver.specs.Entries.{Entry}
use Rattle.tesla_receiver.specs.declared.history.Entry.TheVariants.{Arrived, Taken, Ended}
use Rattle.tesla_records.specs.Grammar.{Parsed, Awaits, Whole, Bad, ParsedHead, AwaitsHead, HeadIs, NoHead}
use Rattle.tesla_state.specs.declared.replies.Reply.{Reply}
use Rattle.tesla_state.specs.declared.replies.Reply.TheVariants.{Given, Empty, Over}
use Rattle.tesla_trace.specs.declared.kind.EntryFault.{EntryFault}
use Rattle.tesla_trace.specs.declared.kind.EntryFault.TheVariants.{BadKind, TooLong, BadCode}

-- what bytes tell of a part of an entry at their start
pub data Part (A : Type 0) : Type 0 where
  -- nothing yet: only more bytes tell
  Short : Part A
  -- no such part begins so
  Wrong : EntryFault → Part A
  -- what the part is, with the bytes after it
  Read : A × List ℕ → Part A

-- the next part follows a part that is there
infixl 10 ◌>>=◌
abbrev pub ◌>>=◌ : {A B : Type 0} → Part A → (A × List ℕ → Part B) → Part B
Short >>= f = Short
(Wrong fault) >>= f = Wrong fault
(Read x) >>= f = f x

-- what is there, or only more bytes tell
abbrev pub part_of : {A : Type 0} → Option (A × List ℕ) → Part A
part_of None = Short
part_of (Some x) = Read x

-- one byte
unfoldable pub byte_part : List ℕ → Part ℕ
byte_part [] = Short
byte_part (byte ∷ rest) = Read (byte, rest)

-- a number, the highest byte first
unfoldable pub number_part : Width → List ℕ → Part ℕ
number_part w bytes = part_of (parse_number w bytes)

-- at most so many bytes, behind their number
unfoldable pub counted_part : ℕ → List ℕ → Part (List ℕ)
counted_part most bytes = do
  n ← number_part w16 bytes
  if nat_lt most n.0 then Wrong TooLong else part_of (parse_bytes n.0 n.1)

-- a bound, where there is one
unfoldable pub some_bound_part : List ℕ → Part Verdict
some_bound_part bytes = do
  bound ← number_part w64 bytes
  Read (verdicts.Future (Some bound.0), bound.1)

-- what stands behind the number of a frame of the future: 0, or 1 and its bound
unfoldable pub bound_by : ℕ → List ℕ → Part Verdict
bound_by zero bytes = Read (verdicts.Future None, bytes)
bound_by (suc zero) bytes = some_bound_part bytes
bound_by _ bytes = Wrong BadCode

unfoldable pub future_part : List ℕ → Part Verdict
future_part bytes = do
  flag ← byte_part bytes
  bound_by flag.0 flag.1

-- the stream of a foreign frame
unfoldable pub foreign_part : List ℕ → Part Verdict
foreign_part bytes = do
  stream ← number_part w64 bytes
  Read (verdicts.Foreign (record { 0 = stream.0 }), stream.1)

-- the chain of a bad key
unfoldable pub bad_key_part : List ℕ → Part Verdict
bad_key_part bytes = do
  chain ← byte_part bytes
  Read (verdicts.BadKey (record { 0 = chain.0 }), chain.1)

-- the set of safe chains
unfoldable pub kept_part : List ℕ → Part Verdict
kept_part bytes = do
  chains ← byte_part bytes
  Read (verdicts.Kept chains.0, chains.1)

-- what stands behind the number of a verdict
unfoldable pub verdict_by : ℕ → List ℕ → Part Verdict
verdict_by (suc zero) bytes = Read (verdicts.Malformed, bytes)
verdict_by (suc (suc zero)) bytes = foreign_part bytes
verdict_by (suc (suc (suc zero))) bytes = Read (verdicts.Misfit, bytes)
verdict_by (suc (suc (suc (suc zero)))) bytes = future_part bytes
verdict_by (suc (suc (suc (suc (suc zero))))) bytes = bad_key_part bytes
verdict_by (suc (suc (suc (suc (suc (suc zero)))))) bytes = Read (verdicts.Late, bytes)
verdict_by (suc (suc (suc (suc (suc (suc (suc zero))))))) bytes = Read (verdicts.Repeat, bytes)
verdict_by (suc (suc (suc (suc (suc (suc (suc (suc zero)))))))) bytes = Read (verdicts.Full, bytes)
verdict_by (suc (suc (suc (suc (suc (suc (suc (suc (suc zero))))))))) bytes = kept_part bytes
verdict_by (suc (suc (suc (suc (suc (suc (suc (suc (suc (suc zero)))))))))) bytes = Read (verdicts.Keys, bytes)
verdict_by _ bytes = Wrong BadCode

unfoldable pub verdict_part : List ℕ → Part Verdict
verdict_part bytes = do
  number ← byte_part bytes
  verdict_by number.0 number.1

-- a release record
unfoldable pub given_part : List ℕ → Part Reply
given_part bytes = do
  position ← number_part w64 bytes
  interval ← number_part w32 position.1
  number ← number_part w16 interval.1
  chain ← byte_part number.1
  payload ← counted_part 1200 chain.1
  Read (Given (record { position = position.0; interval = interval.0; number = number.0; chain = chain.0; length = length payload.0 }) payload.0, payload.1)

-- what stands behind the first byte of an answer to a take
unfoldable pub reply_by : ℕ → List ℕ → Part Reply
reply_by zero bytes = Read (Empty, bytes)
reply_by (suc zero) bytes = Read (Over, bytes)
reply_by (suc (suc zero)) bytes = given_part bytes
reply_by _ bytes = Wrong BadCode

unfoldable pub reply_part : List ℕ → Part Reply
reply_part bytes = do
  code ← byte_part bytes
  reply_by code.0 code.1

-- an entry of each kind, behind its first byte
unfoldable pub arrival_part : List ℕ → Part Entry
arrival_part bytes = do
  ingest ← byte_part bytes
  reading ← number_part w64 ingest.1
  datagram ← counted_part 2048 reading.1
  verdict ← verdict_part datagram.1
  Read (Arrived (record { ingest = ingest.0; reading = reading.0; bytes = datagram.0; verdict = verdict.0 }), verdict.1)

unfoldable pub take_part : List ℕ → Part Entry
take_part bytes = do
  releaser ← byte_part bytes
  reply ← reply_part releaser.1
  Read (Taken releaser.0 reply.0, reply.1)

unfoldable pub end_part : List ℕ → Part Entry
end_part bytes = do
  ingest ← byte_part bytes
  Read (Ended ingest.0, ingest.1)

-- what stands behind the first byte of an entry
unfoldable pub entry_by : ℕ → List ℕ → Part Entry
entry_by (suc zero) bytes = arrival_part bytes
entry_by (suc (suc zero)) bytes = take_part bytes
entry_by (suc (suc (suc zero))) bytes = end_part bytes
entry_by _ bytes = Wrong BadKind

unfoldable pub entry_part : List ℕ → Part Entry
entry_part bytes = do
  kind ← byte_part bytes
  entry_by kind.0 kind.1

-- an entry has the bytes before those that follow it
abbrev pub parse_of : ℕ → Part Entry → Parsed Entry EntryFault
parse_of had Short = Awaits
parse_of had (Wrong fault) = Bad fault
parse_of had (Read x) = Whole x.0 (had - length x.1)

-- what the bytes that were read of an entry tell
unfoldable pub parse_entry : List ℕ → Parsed Entry EntryFault
parse_entry bytes = parse_of (length bytes) (entry_part bytes)

-- what bytes tell that have to begin with this one, told what those behind it tell
abbrev pub byte_then : ℕ → (List ℕ → ParsedHead ℕ) → List ℕ → ParsedHead ℕ
byte_then wanted behind [] = AwaitsHead
byte_then wanted behind (byte ∷ rest) = if byte == wanted then behind rest else NoHead

-- what bytes tell that have to begin with these
abbrev pub head_behind : List ℕ → (List ℕ → ParsedHead ℕ) → List ℕ → ParsedHead ℕ
head_behind [] behind = behind
head_behind (wanted ∷ magic) behind = byte_then wanted (head_behind magic behind)

-- a trace is of 1 to 32 ingests
abbrev pub parse_ingests : List ℕ → ParsedHead ℕ
parse_ingests [] = AwaitsHead
parse_ingests (n ∷ rest) = if nat_le 1 n && nat_le n 32 then HeadIs n else NoHead

-- what the bytes that were read of the head of a trace tell
unfoldable pub parse_head : List ℕ → ParsedHead ℕ
parse_head bytes = head_behind (codes "TTRC" ++ 1 ∷ []) parse_ingests bytes

-- a number that is there
abbrev pub number_head : Option (ℕ × List ℕ) → ParsedHead ℕ
number_head None = AwaitsHead
number_head (Some x) = HeadIs x.0

-- a tail tells the number of its first entry
abbrev pub parse_first : List ℕ → ParsedHead ℕ
parse_first bytes = number_head (parse_number w64 bytes)

-- what the bytes that were read of the head of a tail tell
unfoldable pub parse_tail : List ℕ → ParsedHead ℕ
parse_tail bytes = head_behind (codes "TTAL" ++ 1 ∷ []) parse_first bytes
