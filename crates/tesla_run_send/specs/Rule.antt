-- What a sender makes of each record of a script, behind those before it.
use Rattle.std.specs.Prelude.{◌≡◌, ℕ, ◌+◌, List, [], ◌∷◌, ◌++◌, Option, Some, None}
use Rattle.tesla_base.specs.declared.version.Version.TheVariants.{One}
use Rattle.tesla_capture.specs.Capture as captures
use Rattle.tesla_capture.specs.Script.{Record, script}
use Rattle.tesla_convert.specs.Rule.{Rule}
use Rattle.tesla_frame.specs.Frame.{frame_text}
use Rattle.tesla_sender.specs.Made.{Call, Stream}
use Rattle.tesla_sender.specs.Stands.{State, Stands}
use Rattle.tesla_run_send.specs.Script.{Answer, Makes, MakesNone, Refuses, answer_to, call_of, reading_of}
use Rattle.tesla_run_send.specs.ScriptKind.{script_kind_of}
use Rattle.tesla_run_send.specs.declared.script_kind.ScriptKind.{ScriptKind}

-- the calls that were accepted, once a record was answered so
abbrev pub log_with : Answer → Record → List Call → List Call
log_with (Makes frame) first log = log ++ call_of first ∷ []
log_with MakesNone first log = log
log_with (Refuses kind) first log = log

-- the calls of these records that are accepted, behind those of a log
abbrev pub log_behind : Stream → List Call → List Record → List Call
log_behind stream log [] = log
log_behind stream log (first ∷ records) = log_behind stream (log_with (answer_to stream log first) first log) records

-- the calls of these records that are accepted
abbrev pub log_of : Stream → List Record → List Call
log_of stream records = log_behind stream [] records

-- why a record is refused
abbrev pub refusal_of : Answer → Option ScriptKind
refusal_of (Makes frame) = None
refusal_of MakesNone = None
refusal_of (Refuses kind) = Some kind

-- the records of a frame of these bytes: an arrival and a take
abbrev pub frame_records : ℕ → List ℕ → List ℕ
frame_records reading bytes = captures.record_text (captures.Arrives reading bytes) ++ captures.record_text captures.Takes

-- what is written of a record
abbrev pub adds_by : Answer → Record → List ℕ
adds_by (Makes frame) first = frame_records (reading_of first) (frame_text frame)
adds_by MakesNone first = []
adds_by (Refuses kind) first = []

-- what the sender of a stream makes of the records of a script
abbrev pub rule_of : Stream → Rule script ScriptKind
rule_of stream = record {
  begins = captures.head;
  refuses = λ before first. refusal_of (answer_to stream (log_of stream before) first);
  adds = λ before first. adds_by (answer_to stream (log_of stream before) first) first;
  ends = λ before. [];
  kind_of = script_kind_of;
}

-- how many frames a record makes
abbrev pub frames_in : Answer → ℕ
frames_in (Makes frame) = 1
frames_in MakesNone = 0
frames_in (Refuses kind) = 0

-- how many frames these records make, behind the calls of a log
abbrev pub frames_behind : Stream → List Call → List Record → ℕ
frames_behind stream log [] = 0
frames_behind stream log (first ∷ records) = frames_in (answer_to stream log first) + frames_behind stream (log_with (answer_to stream log first) first log) records

-- how many frames these records make
abbrev pub frames_of : Stream → List Record → ℕ
frames_of stream records = frames_behind stream [] records

-- a sender of the stream was given these records, and so many frames were made
pub record HasSent (stream : Stream) (sender : State) (frames : ℕ) (records : List Record) : Type 0 where
  pub of_stream : sender.stream ≡ stream
  pub stands : Stands sender (log_of stream records)
  pub counted : frames ≡ frames_of stream records

-- a stream without a chain
abbrev pub no_stream : Stream
no_stream = record {
  setup = record { version = One; stream = record { 0 = 0 }; times = record { start = 0; length = 0; last = 0 }; tag_length = 0; rows = [] };
  seeds = [];
}
