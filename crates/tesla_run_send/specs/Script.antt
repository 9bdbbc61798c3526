-- The frames that a sender makes of a script, its first refused record, and their capture.
use Rattle.std.specs.Prelude.{ℕ, ◌+◌, List, [], ◌∷◌, ◌++◌, length, Option, Some, None, Result, Ok, Err}
use Rattle.std.specs.List.{flat_map}
use Rattle.tesla_capture.specs.Capture as captures
use Rattle.tesla_capture.specs.Records.{Outline, outline_of}
use Rattle.tesla_capture.specs.Script.{Record, Sends, Discloses, record_text, script}
use Rattle.tesla_capture.specs.declared.record.RecordKind.{RecordKind}
use Rattle.tesla_frame.specs.Frame.{Frame, frame_text}
use Rattle.tesla_run_send.specs.ScriptKind.{script_kind_of}
use Rattle.tesla_run_send.specs.declared.script_kind.ScriptKind.{ScriptKind}
use Rattle.tesla_run_send.specs.declared.script_kind.ScriptKind.TheVariants.{TooLong, Early, Over, Backward, IntervalFull}
use Rattle.tesla_sender.specs.Made.{Call, Message, Disclose, Stream, made_message, made_disclosure}
use Rattle.tesla_sender.specs.declared.refusal.SendRefusal.{SendRefusal}
use Rattle.tesla_sender.specs.declared.refusal.SendRefusal.TheVariants as unsent
use Rattle.tesla_sender.specs.declared.refusal.DiscloseRefusal.{DiscloseRefusal}
use Rattle.tesla_sender.specs.declared.refusal.DiscloseRefusal.TheVariants as undisclosed

-- ---- one record

-- what a record comes to: a frame, no frame, or a refusal
pub data Answer : Type 0 where
  Makes : Frame → Answer
  MakesNone : Answer
  Refuses : ScriptKind → Answer

-- why a message is refused
abbrev pub message_kind : SendRefusal → ScriptKind
message_kind (unsent.TooLong n) = TooLong
message_kind (unsent.Early reading) = Early
message_kind (unsent.Over interval) = Over
message_kind (unsent.Backward interval) = Backward
message_kind (unsent.IntervalFull interval) = IntervalFull

abbrev pub message_answer : Result Frame SendRefusal → Answer
message_answer (Ok frame) = Makes frame
message_answer (Err refusal) = Refuses (message_kind refusal)

-- a disclosure with nothing due isn't refused
abbrev pub disclosure_answer : Result Frame DiscloseRefusal → Answer
disclosure_answer (Ok frame) = Makes frame
disclosure_answer (Err (undisclosed.Backward interval)) = Refuses Backward
disclosure_answer (Err undisclosed.NothingDue) = MakesNone

-- what a record comes to after the calls that were accepted
abbrev pub answer_to : Stream → List Call → Record → Answer
answer_to stream log (Sends reading payload) = message_answer (made_message stream log reading payload)
answer_to stream log (Discloses reading) = disclosure_answer (made_disclosure stream log reading)

-- the call of the sender that a record asks for
abbrev pub call_of : Record → Call
call_of (Sends reading payload) = Message reading payload
call_of (Discloses reading) = Disclose reading

-- when it is to be sent, by the sender's clock
abbrev pub reading_of : Record → ℕ
reading_of (Sends reading payload) = reading
reading_of (Discloses reading) = reading

-- ---- all records

-- a frame, with the reading of the sender's clock at which it is sent
pub record Sent : Type 0 where
  pub reading : ℕ
  pub frame : Frame

-- the frames that are sent, in order, and the first record that is refused, with its place in bytes from the file's begin
pub record Sending : Type 0 where
  pub sent : List Sent
  pub refused : Option (ℕ × ScriptKind)

-- a record at a place, told what comes of the records behind it after some accepted calls
abbrev pub sending_by : Answer → Record → ℕ → List Call → (List Call → Sending) → Sending
sending_by (Makes frame) first offset log others =
    let after : Sending = others (log ++ call_of first ∷ []) in
    record { sent = record { reading = reading_of first; frame = frame } ∷ after.sent; refused = after.refused }
sending_by MakesNone first offset log others = others log
sending_by (Refuses kind) first offset log others = record { sent = []; refused = Some (offset, kind) }

-- these records, of which the first stands at a place, after the calls that were accepted; behind them the file ends, or is refused
abbrev pub sending_of : Stream → Option (ℕ × ScriptKind) → List Record → ℕ → List Call → Sending
sending_of stream end [] offset log = record { sent = []; refused = end }
sending_of stream end (first ∷ records) offset log =
    sending_by (answer_to stream log first) first offset log (sending_of stream end records (offset + length (record_text first)))

-- where the file itself is refused
abbrev pub end_of_file : Option (ℕ × RecordKind) → Option (ℕ × ScriptKind)
end_of_file None = None
end_of_file (Some fault) = Some (fault.0, script_kind_of fault.1)

-- the records of an outline, of which the first stands at a place, after the calls that were accepted
abbrev pub sending_in : Stream → List Call → ℕ → Outline Record → Sending
sending_in stream log offset outline = sending_of stream (end_of_file outline.fault) outline.records offset log

-- a whole script: its records stand behind the head, and no call was accepted before
abbrev pub sending : Stream → List ℕ → Sending
sending stream bytes = sending_in stream [] 5 (outline_of script bytes)

-- ---- the capture

-- an arrival and a take for each frame
abbrev pub capture_of : List Sent → List captures.Record
capture_of sent = flat_map (λ (it : Sent). captures.Arrives it.reading (frame_text it.frame) ∷ captures.Takes ∷ []) sent

-- what is written of the frames
abbrev pub sent_text : List Sent → List ℕ
sent_text sent = captures.capture_text (capture_of sent)
