-- The records of a script, sent one after another as the rule of their sender says.
use Rattle.std.proofs.Common.{◌≡◌, ◌∙◌, ℕ, ◌+◌, Option, Some, None, List, [], ◌∷◌, ◌++◌, length, refl, sym, ap, subst, arith, append_assoc, append-nil}
use Rattle.std.specs.List.{flat_map}
use Rattle.tesla_capture.specs.Capture as captures
use Rattle.tesla_capture.specs.Gathering.{Gathers}
use Rattle.tesla_capture.specs.Records.{outline_of}
use Rattle.tesla_capture.specs.Script.{Record, record_text, script}
use Rattle.tesla_capture.specs.declared.record.RecordKind.{RecordKind}
use Rattle.tesla_convert.specs.Records.{Answers}
use Rattle.tesla_convert.specs.Rule.{Behind, Made, Unread, behind_of, made, made_behind, made_first, made_of, made_so_far, with_text}
use Rattle.tesla_convert.specs.declared.converter.Converted.{Converted}
use Rattle.tesla_convert.specs.declared.converter.Converted.TheVariants as converted
use Rattle.tesla_desk.specs.Outside.{AppendsPrefix}
use Rattle.tesla_desk.proofs.Told.{appends_none}
use Rattle.tesla_frame.specs.Frame.{frame_text}
use Rattle.tesla_sender.specs.Made.{Call, Stream}
use Rattle.tesla_sender.specs.Stands.{State, Stands}
use Rattle.tesla_run_send.specs.Rule.{HasSent, adds_by, frame_records, frames_behind, frames_in, frames_of, log_behind, log_of, log_with, refusal_of, rule_of}
use Rattle.tesla_run_send.specs.Script.{Answer, Makes, MakesNone, Refuses, Sending, answer_to, call_of, capture_of, end_of_file, reading_of, sending, sending_by, sending_of, sent_text}
use Rattle.tesla_run_send.specs.Send.{sending_so_far}
use Rattle.tesla_run_send.specs.Steps.{CarriesOut}
use Rattle.tesla_run_send.specs.declared.script_kind.ScriptKind.{ScriptKind}

-- ---- one record more

-- the calls that are accepted, with one record more
log_more : (stream : Stream) (log : List Call) (records : List Record) (first : Record) → log_behind stream log (records ++ first ∷ []) ≡ log_with (answer_to stream (log_behind stream log records) first) first (log_behind stream log records)
log_more stream log [] first = refl
log_more stream log (other ∷ records) first = log_more stream (log_with (answer_to stream log other) other log) records first

-- how many frames are made, with one record more
frames_more : (stream : Stream) (log : List Call) (records : List Record) (first : Record) → frames_behind stream log (records ++ first ∷ []) ≡ frames_behind stream log records + frames_in (answer_to stream (log_behind stream log records) first)
frames_more stream log [] first = omega arith
frames_more stream log (other ∷ records) first =
    let others : frames_behind stream (log_with (answer_to stream log other) other log) (records ++ first ∷ []) ≡ frames_behind stream (log_with (answer_to stream log other) other log) records + frames_in (answer_to stream (log_behind stream (log_with (answer_to stream log other) other log) records) first) =
    frames_more stream (log_with (answer_to stream log other) other log) records first in
    omega (arith, others)

-- a sender was given one record more, which was answered so
sent_more : (answer : Answer) (first : Record) (stream : Stream) (sender : State) (records : List Record) (count counted : ℕ) → answer_to stream (log_of stream records) first ≡ answer → sender.stream ≡ stream → count ≡ frames_of stream records
    → Stands sender (log_with answer first (log_of stream records)) → counted ≡ count + frames_in answer → HasSent stream sender counted (records ++ first ∷ [])
sent_more answer first stream sender records count counted is same count_is stands more =
    let log : log_of stream (records ++ first ∷ []) ≡ log_with answer first (log_of stream records) = log_more stream [] records first ∙ ap (λ (a : Answer). log_with a first (log_of stream records)) is in
    let frames : frames_of stream (records ++ first ∷ []) ≡ frames_of stream records + frames_in answer = frames_more stream [] records first ∙ ap (λ (a : Answer). frames_of stream records + frames_in a) is in
    record {
      of_stream = same;
      stands = subst (λ (l : List Call). Stands sender l) (sym log) stands;
      counted = more ∙ ap (λ (n : ℕ). n + frames_in answer) count_is ∙ sym frames;
    }

-- nothing was put
pub gathers_nothing : (before now : Option (List ℕ)) (held rest : List ℕ) → now ≡ before → rest ≡ held → Gathers before now rest (held ++ [])
gathers_nothing before now held rest written same = record { done = []; written = written ∙ appends_none before; both = append-nil held ∙ sym same }

answers_by : (outcome : Converted ScriptKind) (answer : Answer) (first : Record) (stream : Stream) (sender : State) (records : List Record) (count counted : ℕ) (before now : Option (List ℕ)) (held rest : List ℕ)
    → answer_to stream (log_of stream records) first ≡ answer → sender.stream ≡ stream → count ≡ frames_of stream records
    → CarriesOut outcome answer first (log_of stream records) sender count counted before now held rest → Answers script (rule_of stream) (λ (rs : List Record). HasSent stream sender counted rs) records first outcome before now held rest
answers_by converted.Whole (Makes frame) first stream sender records count counted before now held rest is same count_is does = (
  ap refusal_of is,
  sent_more (Makes frame) first stream sender records count counted is same count_is does.0 does.1.0,
  subst (λ (t : List ℕ). Gathers before now rest (held ++ t)) (sym (ap (λ (a : Answer). adds_by a first) is)) does.1.1,
)
answers_by converted.Whole MakesNone first stream sender records count counted before now held rest is same count_is does = (
  ap refusal_of is,
  sent_more MakesNone first stream sender records count counted is same count_is does.0 (omega (arith, does.1.count_is)),
  subst (λ (t : List ℕ). Gathers before now rest (held ++ t)) (sym (ap (λ (a : Answer). adds_by a first) is)) (gathers_nothing before now held rest does.1.written does.1.held_is),
)
answers_by converted.Whole (Refuses kind) first stream sender records count counted before now held rest is same count_is does = absurd does
answers_by (converted.Refused kind) (Makes frame) first stream sender records count counted before now held rest is same count_is does = absurd does
answers_by (converted.Refused kind) MakesNone first stream sender records count counted before now held rest is same count_is does = absurd does
answers_by (converted.Refused kind) (Refuses other) first stream sender records count counted before now held rest is same count_is does = (ap refusal_of is ∙ ap (λ (k : ScriptKind). Some k) (sym does.0), does.1.written, does.1.held_is)
answers_by converted.WriteFault (Makes frame) first stream sender records count counted before now held rest is same count_is does =
    (ap refusal_of is, subst (λ (t : List ℕ). AppendsPrefix before now (held ++ t)) (sym (ap (λ (a : Answer). adds_by a first) is)) does)
answers_by converted.WriteFault MakesNone first stream sender records count counted before now held rest is same count_is does = absurd does
answers_by converted.WriteFault (Refuses kind) first stream sender records count counted before now held rest is same count_is does = absurd does
answers_by converted.NoMemory (Makes frame) first stream sender records count counted before now held rest is same count_is does = absurd does
answers_by converted.NoMemory MakesNone first stream sender records count counted before now held rest is same count_is does = absurd does
answers_by converted.NoMemory (Refuses kind) first stream sender records count counted before now held rest is same count_is does = absurd does

-- the answer to a record was carried out, behind the records that its sender was given before
pub answers_record : (outcome : Converted ScriptKind) (given first : Record) (stream : Stream) (old sender : State) (records : List Record) (count counted : ℕ) (before now : Option (List ℕ)) (held rest : List ℕ)
    → given ≡ first → HasSent stream old count records → sender.stream ≡ old.stream → ((log : List Call) → Stands old log → CarriesOut outcome (answer_to old.stream log first) first log sender count counted before now held rest)
    → Answers script (rule_of stream) (λ (rs : List Record). HasSent stream sender counted rs) records given outcome before now held rest
answers_record outcome given first stream old sender records count counted before now held rest is has same does =
    let carries : CarriesOut outcome (answer_to stream (log_of stream records) first) first (log_of stream records) sender count counted before now held rest =
    subst (λ (s : Stream). CarriesOut outcome (answer_to s (log_of stream records) first) first (log_of stream records) sender count counted before now held rest) has.of_stream (does (log_of stream records) has.stands) in
    subst (λ (r : Record). Answers script (rule_of stream) (λ (rs : List Record). HasSent stream sender counted rs) records r outcome before now held rest) (sym is)
    (answers_by outcome (answer_to stream (log_of stream records) first) first stream sender records count counted before now held rest refl (same ∙ has.of_stream) has.counted carries)

-- ---- all records

-- what is written of frames, and the refused place
abbrev made_sending : Sending → Made ScriptKind
made_sending s = record { text = flat_map captures.record_text (capture_of s.sent); refused = s.refused }

-- what is made of a record, told what is made of those behind it
first_made : (answer : Answer) (first : Record) (offset : ℕ) (log : List Call) (others : List Call → Sending) (behind : Made ScriptKind) → behind ≡ made_sending (others (log_with answer first log)) → made_first (refusal_of answer) offset (adds_by answer first) behind ≡ made_sending (sending_by answer first offset log others)
first_made (Makes frame) first offset log others behind e =
    let after : Sending = others (log ++ call_of first ∷ []) in
    let text : List ℕ = flat_map captures.record_text (capture_of after.sent) in
    ap (with_text (frame_records (reading_of first) (frame_text frame))) e
    ∙ ap (λ (t : List ℕ). let m : Made ScriptKind = record { text = t; refused = after.refused } in m) (append_assoc (captures.record_text (captures.Arrives (reading_of first) (frame_text frame))) (captures.record_text captures.Takes) text)
first_made MakesNone first offset log others behind e = e
first_made (Refuses kind) first offset log others behind e = refl

-- what is made of records, of which the first stands at a place, behind others
records_made : (stream : Stream) (behind : Behind ScriptKind) (end : Option (ℕ × ScriptKind)) → ((before : List Record) → made_behind script ScriptKind (rule_of stream) behind before ≡ record { text = []; refused = end })
    → (offset : ℕ) (before records : List Record) → made_of script ScriptKind (rule_of stream) behind offset before records ≡ made_sending (sending_of stream end records offset (log_of stream before))
records_made stream behind end ends offset before [] = ends before
records_made stream behind end ends offset before (first ∷ records) =
    let answer : Answer = answer_to stream (log_of stream before) first in
    let others : List Call → Sending = sending_of stream end records (offset + length (record_text first)) in
    first_made answer first offset (log_of stream before) others (made_of script ScriptKind (rule_of stream) behind (offset + length (record_text first)) (before ++ first ∷ []) records)
    (records_made stream behind end ends (offset + length (record_text first)) (before ++ first ∷ []) records ∙ ap (λ (log : List Call). made_sending (others log)) (log_more stream [] before first))

-- what stands behind the records of a file
file_ends : (stream : Stream) (fault : Option (ℕ × RecordKind)) (before : List Record) → made_behind script ScriptKind (rule_of stream) (behind_of script ScriptKind (rule_of stream) fault) before ≡ record { text = []; refused = end_of_file fault }
file_ends stream None before = refl
file_ends stream (Some fault) before = refl

-- what the rule makes of a script is what the sender makes of it
pub made_is : (stream : Stream) (bytes : List ℕ) → made script ScriptKind (rule_of stream) bytes ≡ record { text = sent_text (sending stream bytes).sent; refused = (sending stream bytes).refused }
made_is stream bytes =
    ap (with_text captures.head) (records_made stream (behind_of script ScriptKind (rule_of stream) (outline_of script bytes).fault) (end_of_file (outline_of script bytes).fault) (file_ends stream (outline_of script bytes).fault) 5 [] (outline_of script bytes).records)

-- so is what it makes of the first bytes of a script
pub so_far_is : (stream : Stream) (read : List ℕ) → made_so_far script ScriptKind (rule_of stream) read ≡ record { text = sent_text (sending_so_far stream read).sent; refused = (sending_so_far stream read).refused }
so_far_is stream read = ap (with_text captures.head) (records_made stream Unread None (λ before. refl) 5 [] (outline_of script read).records)

first_counted : (answer : Answer) (first : Record) (offset : ℕ) (log : List Call) (others : List Call → Sending) (n : ℕ) → ((others (log_with answer first log)).refused ≡ None → n ≡ length (others (log_with answer first log)).sent)
    → (sending_by answer first offset log others).refused ≡ None → frames_in answer + n ≡ length (sending_by answer first offset log others).sent
first_counted (Makes frame) first offset log others n counts none = let same : n ≡ length (others (log ++ call_of first ∷ [])).sent = counts none in omega (arith, same)
first_counted MakesNone first offset log others n counts none = let same : n ≡ length (others log).sent = counts none in omega (arith, same)
first_counted (Refuses kind) first offset log others n counts none = absurd cc

-- where no record is refused, these are the frames that are sent
pub frames_counted : (stream : Stream) (end : Option (ℕ × ScriptKind)) (offset : ℕ) (log : List Call) (records : List Record) → (sending_of stream end records offset log).refused ≡ None → frames_behind stream log records ≡ length (sending_of stream end records offset log).sent
frames_counted stream end offset log [] none = refl
frames_counted stream end offset log (first ∷ records) none =
    let answer : Answer = answer_to stream log first in
    let after : List Call = log_with answer first log in
    first_counted answer first offset log (sending_of stream end records (offset + length (record_text first))) (frames_behind stream after records)
    (λ whole. frames_counted stream end (offset + length (record_text first)) after records whole) none
